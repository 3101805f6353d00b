-- What a sink that prints has written of items.
use Rattle.std.proofs.Common.{◌≡◌, ℕ, List, [], ◌∷◌, ◌++◌, length, map, Option, reverse, refl, sym, ap, subst, ◌∙◌, append_assoc}
use Rattle.std.proofs.lemmas.List.{map-append, reverse-append}
use Rattle.std.specs.Io.KnownBytes.{Appends}
use Rattle.pid_file.proofs.SendingLemmas.{Appends-nil, Appends-then}
use Rattle.pid_file.proofs.Written.{ended-append, lines-first}
use Rattle.pid_service.proofs.Words.{ended, ExportSink, Extents, extents_after, item_in, Items, lines_after, Numbered, PrintsItem, text_behind, text_or_none, Took}

-- the text of the last path, which is the one before where there are no items
abbrev pub last_path : List ℕ → Items → List ℕ
last_path before [] = before
last_path before (item ∷ items) = last_path item.0 items

-- the lines of the first item, and then those behind it
pub text_first : (before : List ℕ) (item : List ℕ × List ℕ) (items : Items) → text_behind before (item ∷ items) ≡ text_behind before (item ∷ []) ++ text_behind item.0 items
text_first before item items = ap ended (lines-first before item items) ∙ ended-append (lines_after before (item ∷ [])) (lines_after item.0 items)

-- the lines of some items, and then those behind them
pub text_joined : (before : List ℕ) (xs ys : Items) → text_behind before (xs ++ ys) ≡ text_behind before xs ++ text_behind (last_path before xs) ys
text_joined before [] ys = refl
text_joined before (x ∷ xs) ys =
    let one = text_behind before (x ∷ []) in
    text_first before x (xs ++ ys) ∙ ap (λ (l : List ℕ). one ++ l) (text_joined x.0 xs ys) ∙ sym (append_assoc one (text_behind x.0 xs) (text_behind (last_path x.0 xs) ys))
    ∙ ap (λ (l : List ℕ). l ++ text_behind (last_path x.0 xs) ys) (sym (text_first before x xs))

-- the extents of some items, and then those behind them
pub extents_joined : (before : List ℕ) (xs ys : Items) → extents_after before (xs ++ ys) ≡ extents_after before xs ++ extents_after (last_path before xs) ys
extents_joined before [] ys = refl
extents_joined before (x ∷ xs) ys = ap (λ (l : Extents). (x.0, length (text_behind before (x ∷ []))) ∷ l) (extents_joined x.0 xs ys)

pub last_joined : (before : List ℕ) (xs : Items) (y : List ℕ × List ℕ) → last_path before (xs ++ y ∷ []) ≡ y.0
last_joined before [] y = refl
last_joined before (x ∷ xs) y = last_joined x.0 xs y

-- these items are printed behind the same borrow
pub record HasPrinted {W : Type 0} (taken : W → Option (List ℕ)) (s : ExportSink W) (items : Items) (t : ExportSink W) : Type 0 where
  pub same_reference : t.out.ghost_name ≡ s.out.ghost_name
  pub last : text_or_none t.before ≡ last_path (text_or_none s.before) items
  pub printed : Appends (taken s.out.now) (taken t.out.now) (text_behind (text_or_none s.before) items)

module _ {W : Type 0} (taken : W → Option (List ℕ)) where
  none_printed : (s : ExportSink W) → HasPrinted taken s [] s
  none_printed s = record { same_reference = refl; last = refl; printed = Appends-nil (taken s.out.now) }

  one_more : (old between new : ExportSink W) (items : Items) (entry : Numbered) → HasPrinted taken old items between → PrintsItem taken between entry new → HasPrinted taken old (items ++ item_in entry ∷ []) new
  one_more old between new items entry h step = record {
    same_reference = step.same_reference ∙ h.same_reference;
    last = step.before ∙ sym (last_joined (text_or_none old.before) items (item_in entry));
    printed =
        let text = text_behind (text_or_none old.before) items in
        let line = text_behind (last_path (text_or_none old.before) items) (item_in entry ∷ []) in
        let now = subst (λ (b : List ℕ). Appends (taken between.out.now) (taken new.out.now) (text_behind b (item_in entry ∷ []))) h.last step.printed in
        subst (Appends (taken old.out.now) (taken new.out.now)) (sym (text_joined (text_or_none old.before) items (item_in entry ∷ [])))
        (Appends-then (taken old.out.now) (taken between.out.now) (taken new.out.now) text line h.printed now);
  }

  -- the last entry is the first here
  pub took_printed : (old new : ExportSink W) (es : List Numbered) → Took (PrintsItem taken) old es new → HasPrinted taken old (map item_in (reverse es)) new
  took_printed old new [] took = subst (HasPrinted taken old []) (sym took) (none_printed old)
  took_printed old new (e ∷ es) (between, took, step) =
      let back : map item_in (reverse (e ∷ es)) ≡ map item_in (reverse es) ++ item_in e ∷ [] = ap (map item_in) (reverse-append (e ∷ []) es) ∙ map-append item_in (reverse es) (e ∷ []) in
      subst (λ (items : Items). HasPrinted taken old items new) (sym back) (one_more old between new (map item_in (reverse es)) e (took_printed old between es took) step)
