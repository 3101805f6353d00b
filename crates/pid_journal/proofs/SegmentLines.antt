-- A segment that is read line by line.
use Rattle.std.proofs.Common.{◌≡◌, ℕ, ◌+◌, ◌-◌, Vec, List, [], ◌∷◌, ◌++◌, length, take, drop, Some, refl, sym, ap, subst, ◌∙◌, arith, append_assoc, append-nil, length-append, take-append-drop, drop_at}
use Rattle.std.specs.Prelude.{vec_len}
use Rattle.pid_file.proofs.Cuts.{still}
use Rattle.pid_file.specs.WholeLines.{ended_pieces}
use Rattle.pid_journal.specs.declared.folder.JournalFolder as folders
use Rattle.pid_journal.specs.declared.segment_text.SegmentText.{SegmentText}
use Rattle.pid_journal.specs.Steps.Places.{IsEndOf, IsOpenEnd}
use Rattle.pid_journal.specs.Steps.Reads.{EndsAt, IsAllRead, IsLine, OfText, OnlyReads, held_of, left_in}
use Rattle.pid_journal.specs.Steps.Segments.{IsSameFolder}
use Rattle.pid_journal.proofs.Resuming.{open_joined}

-- THE BYTES THAT ARE HELD

all_held : {A : Type 0} (v : Vec ℕ A) → vec_len v ≡ length v.items
all_held v = omega arith

shorter : (a b d : ℕ) → a ≡ b + d → b ≡ a - d
shorter a b d is = omega arith

-- what comes after a line
held_behind : (held front behind : List ℕ) (taken : ℕ) → drop taken held ≡ front ++ 10 ∷ behind → drop (length held - length behind) held ≡ behind
held_behind held front behind taken is =
    let parts : held ≡ (take taken held ++ (front ++ 10 ∷ [])) ++ behind =
    sym (take-append-drop taken held)
    ∙ ap (λ (l : List ℕ). take taken held ++ l) (is ∙ sym (append_assoc front (10 ∷ []) behind))
    ∙ sym (append_assoc (take taken held) (front ++ 10 ∷ []) behind) in
    let count : length (take taken held ++ (front ++ 10 ∷ [])) ≡ length held - length behind =
    shorter (length held) (length (take taken held ++ (front ++ 10 ∷ []))) (length behind) (ap length parts ∙ length-append (take taken held ++ (front ++ 10 ∷ [])) behind) in
    ap (drop (length held - length behind)) parts ∙ drop_at (take taken held ++ (front ++ 10 ∷ [])) behind (length held - length behind) count

-- THE END

-- what is left of a text of which all was read is held, after lines that were taken
pub ends_held : (all : List ℕ) (t u : SegmentText) → IsEndOf all (left_in t all) → IsOpenEnd (left_in t all) (left_in u all) × (drop u.read all ≡ []) → IsOpenEnd all (held_of u)
ends_held all t u one two =
    let end = two.0.end in
    subst (λ (l : List ℕ). IsOpenEnd all l) (ap (λ (l : List ℕ). held_of u ++ l) two.1 ∙ append-nil (held_of u)) (record {
      end = record {
        front = one.front ++ end.front;
        parts = one.parts ∙ ap (λ (l : List ℕ). one.front ++ l) end.parts ∙ sym (append_assoc one.front end.front (left_in u all));
        whole = open_joined one.front end.front one.whole end.whole;
      };
      torn = two.0.torn;
    })

-- what is left of a text of which all was read
pub open_end : (t u : SegmentText) (all text : List ℕ) → IsEndOf text (left_in t all) → IsAllRead t u all → IsOpenEnd text (left_in u all)
open_end t u all text end read = record {
  end = subst (λ (l : List ℕ). IsEndOf text l) (sym read.same) end;
  torn = ap ended_pieces read.same ∙ read.torn;
}

module _ {F J : Type 0} (folder : folders.Ghosts F J) where
  -- what is said of the text of a folder that stays
  pub text_at : (f g : F) (u : SegmentText) (begin : ℕ) (Says : List ℕ → Type 0) → IsSameFolder folder f g → u.begin ≡ begin → OfText folder g u Says → (names : List ℕ) → folder.names f ≡ Some names → Says (folder.text_in f begin)
  text_at f g u begin Says same is says names known = subst Says (λ i. same.1 i (is i)) (says names (same.0 ∙ known))

  -- the same, which is said of the folder once it has stayed
  pub text_back : (f g : F) (u : SegmentText) (begin : ℕ) (Says : List ℕ → Type 0) → IsSameFolder folder f g → u.begin ≡ begin → ((names : List ℕ) → folder.names f ≡ Some names → Says (folder.text_in f begin)) → OfText folder g u Says
  text_back f g u begin Says same is says names known = subst Says (λ i. sym same.1 i (sym is i)) (says names (sym same.0 ∙ known))

  -- what is said of a segment of which nothing was read
  pub text_whole : (f : F) (t : SegmentText) (begin : ℕ) (Says : List ℕ → List ℕ → Type 0) → t.begin ≡ begin → ((text : List ℕ) → left_in t text ≡ text) → OfText folder f t (λ all. Says (left_in t all) all) → (names : List ℕ) → folder.names f ≡ Some names
      → Says (folder.text_in f begin) (folder.text_in f begin)
  text_whole f t begin Says is left says names known = subst (λ (n : ℕ). Says (folder.text_in f n) (folder.text_in f n)) is (subst (λ (l : List ℕ). Says l (folder.text_in f t.begin)) (left (folder.text_in f t.begin)) (says names known))

  pub text_then : (f g : F) (t u : SegmentText) (Says : List ℕ → Type 0) → OnlyReads folder f g t u → OfText folder g u Says → OfText folder f t Says
  text_then f g t u Says reads says names known = text_at f g u t.begin Says reads.same reads.begin says names known

  pub reads_none : (f : F) (t : SegmentText) → OnlyReads folder f f t t
  reads_none f t = record { same = (refl, refl); quiet = refl; begin = refl }

  pub reads_both : (f g k : F) (t u v : SegmentText) → OnlyReads folder f g t u → OnlyReads folder g k u v → OnlyReads folder f k t v
  reads_both f g k t u v one two = record {
    same = (two.same.0 ∙ one.same.0, two.same.1 ∙ one.same.1);
    quiet = two.quiet ∙ one.quiet;
    begin = two.begin ∙ one.begin;
  }

  -- A LINE

  -- a part of it was taken, in which there is no LF
  pub record IsTaking (f g : F) (t u : SegmentText) (line : List ℕ) : Type 0 where
    pub reads : OnlyReads folder f g t u
    pub so_far : OfText folder f t (λ text. left_in t text ≡ line ++ left_in u text)
    pub one : ended_pieces line ≡ []

  pub takes_first : (f : F) (t : SegmentText) (line : List ℕ) → line ≡ [] → IsTaking f f t t line
  takes_first f t line none = record {
    reads = reads_none f t;
    so_far = λ names known. ap (λ (l : List ℕ). l ++ left_in t (folder.text_in f t.begin)) (sym none);
    one = ap ended_pieces none;
  }

  -- all that was read is taken, and more was read
  pub takes_more : (f g k : F) (t u v : SegmentText) (line unread more : List ℕ) → IsTaking f g t u line → unread ≡ drop u.taken u.held.items → ended_pieces unread ≡ [] → more ≡ line ++ unread → OnlyReads folder g k u v
      → OfText folder g u (λ text. left_in v text ≡ drop u.read text) → IsTaking f k t v more
  takes_more f g k t u v line unread more taking is none longer reads rest = record {
    reads = reads_both f g k t u v taking.reads reads;
    so_far = λ names known.
        let text = folder.text_in f t.begin in
        taking.so_far names known
        ∙ ap (λ (l : List ℕ). line ++ (l ++ drop u.read text)) (sym is)
        ∙ sym (append_assoc line unread (drop u.read text))
        ∙ ap (λ (l : List ℕ). l ++ drop u.read text) (sym longer)
        ∙ ap (λ (l : List ℕ). more ++ l) (sym (text_then f g t u (λ text. left_in v text ≡ drop u.read text) taking.reads rest names known));
    one = ap ended_pieces longer ∙ still line unread taking.one none;
  }

  -- its LF has come
  pub takes_last : (f g : F) (t u : SegmentText) (line unread front behind whole : List ℕ) (taken : ℕ) → IsTaking f g t u line → unread ≡ drop u.taken u.held.items → unread ≡ front ++ 10 ∷ behind → ended_pieces front ≡ [] → whole ≡ line ++ front
      → taken ≡ vec_len u.held - length behind → OfText folder f t (λ text. IsLine (left_in t text) whole (drop taken u.held.items ++ drop u.read text))
  takes_last f g t u line unread front behind whole taken taking is parts one longer count names known =
      let rest = drop u.read (folder.text_in f t.begin) in
      let left : drop taken u.held.items ≡ behind = ap (λ (n : ℕ). drop n u.held.items) (count ∙ ap (λ (n : ℕ). n - length behind) (all_held u.held)) ∙ held_behind u.held.items front behind u.taken (sym is ∙ parts) in
      record {
        parts =
            taking.so_far names known
            ∙ ap (λ (l : List ℕ). line ++ (l ++ rest)) (sym is ∙ parts)
            ∙ ap (λ (l : List ℕ). line ++ l) (append_assoc front (10 ∷ behind) rest)
            ∙ sym (append_assoc line front (10 ∷ (behind ++ rest)))
            ∙ ap (λ (l : List ℕ). l ++ 10 ∷ (behind ++ rest)) (sym longer)
            ∙ ap (λ (l : List ℕ). whole ++ 10 ∷ (l ++ rest)) (sym left);
        one = ap ended_pieces longer ∙ still line front taking.one one;
      }

  -- none has come, and nothing is left to be read
  pub takes_none : (f g : F) (t v u : SegmentText) (line : List ℕ) → IsTaking f g t v line → OfText folder f t (λ text. (left_in v text ≡ []) × (drop v.read text ≡ [])) → u.held.items ≡ line → u.taken ≡ 0 → u.read ≡ v.read → OfText folder f t (IsAllRead t u)
  takes_none f g t v u line taking none held taken read names known =
      let text = folder.text_in f t.begin in
      let all : drop u.read text ≡ [] = ap (λ (n : ℕ). drop n text) read ∙ (none names known).1 in
      let before : left_in t text ≡ line = taking.so_far names known ∙ ap (λ (l : List ℕ). line ++ l) (none names known).0 ∙ append-nil line in
      let now : left_in u text ≡ line = (λ i. drop (taken i) (held i) ++ all i) ∙ append-nil line in
      record {
        same = now ∙ sym before;
        torn = ap ended_pieces before ∙ taking.one;
        all = all;
      }

  -- the end of a segment that was read
  pub ends_read : (f : F) (t u : SegmentText) (begin : ℕ) → u.begin ≡ begin → ((names : List ℕ) → folder.names f ≡ Some names → IsEndOf (folder.text_in f begin) (left_in t (folder.text_in f begin)))
      → ((names : List ℕ) → folder.names f ≡ Some names → IsOpenEnd (left_in t (folder.text_in f begin)) (left_in u (folder.text_in f begin)) × (drop u.read (folder.text_in f begin) ≡ [])) → EndsAt folder f u
  ends_read f t u begin is one two names known = subst (λ (n : ℕ). IsOpenEnd (folder.text_in f n) (held_of u)) (sym is) (ends_held (folder.text_in f begin) t u (one names known) (two names known))
