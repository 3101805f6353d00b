-- One write after another.
use Rattle.std.proofs.Common.{◌≡◌, ℕ, zero, suc, ◌+◌, ◌<◌, get_or, List, [], ◌∷◌, ◌++◌, length, take, drop, Option, Some, None, Result, Ok, Err, sym, ap, subst, ◌∙◌, append_assoc, arith}
use Rattle.std.specs.Io.KnownBytes.{Appends, Keeps}
use Rattle.std.proofs.lemmas.List.{append-nil, length-append, take-append-drop, take-append-le}
use Rattle.std.specs.List.{flat_map}
use Rattle.std.proofs.lemmas.List.Concat.{flat_map-cons}
use Rattle.std.proofs.Math.Seq.{take-append-add, take-append_seam}
use Rattle.pid_file.specs.Sending.{Sends, SendsFront}

pub Appends-nil : (a : Option (List ℕ)) → Appends a a []
Appends-nil None = tt
Appends-nil (Some x) = sym (append-nil x)

pub Appends-then : (a b c : Option (List ℕ)) (x y : List ℕ) → Appends a b x → Appends b c y → Appends a c (x ++ y)
Appends-then None b c x y p q = tt
Appends-then (Some a) None c x y p q = absurd p
Appends-then (Some a) (Some b) None x y p q = absurd q
Appends-then (Some a) (Some b) (Some c) x y p q = q ∙ ap (λ (l : List ℕ). l ++ y) p ∙ append_assoc a x y

pub Appends-keeps : (a b c : Option (List ℕ)) (x : List ℕ) → Appends a b x → Keeps b c → Appends a c x
Appends-keeps None b c x p q = tt
Appends-keeps (Some a) None c x p q = absurd p
Appends-keeps (Some a) (Some b) None x p q = absurd q
Appends-keeps (Some a) (Some b) (Some c) x p q = q ∙ p

take_front : (x y : List ℕ) (n : ℕ) → take (length x + n) (x ++ y) ≡ x ++ take n y
take_front x y n = take-append-add x y n

-- what was written before, and a front of what follows
front-then : (a b c : Option (List ℕ)) (x y : List ℕ) → Appends a b x → SendsFront b c y → SendsFront a c (x ++ y)
front-then a b c x y p (n, less, q) = (length x + n, omega (arith, length-append x y, less), subst (Appends a c) (sym (take_front x y n)) (Appends-then a b c x (take n y) p q))

pub Sends-then : {X E : Type 0} (r : Result X E) (a b c : Option (List ℕ)) (x y : List ℕ) → Appends a b x → Sends r b c y → Sends r a c (x ++ y)
Sends-then (Ok v) a b c x y p q = Appends-then a b c x y p q
Sends-then (Err e) a b c x y p q = front-then a b c x y p q

-- the loop of `write_all`
pub sent_more : (a b c : Option (List ℕ)) (bytes rest behind : List ℕ) (n : ℕ) → (sent : List ℕ) × (bytes ≡ sent ++ rest) × Appends a b sent → Appends b c (take n rest) → behind ≡ drop n rest → (sent : List ℕ) × (bytes ≡ sent ++ behind) × Appends a c sent
sent_more a b c bytes rest behind n (sent, whole, before) now is =
    (sent ++ take n rest, whole ∙ ap (λ (l : List ℕ). sent ++ l) (sym (take-append-drop n rest)) ∙ sym (append_assoc sent (take n rest) (drop n rest)) ∙ ap (λ (l : List ℕ). (sent ++ take n rest) ++ l) (sym is), Appends-then a b c sent (take n rest) before now)

pub sent_less : (a b c : Option (List ℕ)) (bytes rest : List ℕ) → (sent : List ℕ) × (bytes ≡ sent ++ rest) × Appends a b sent → 0 < length rest → Keeps b c → SendsFront a c bytes
sent_less a b c bytes rest (sent, whole, before) some kept =
    (length sent, omega (arith, ap length whole, length-append sent rest, some), subst (Appends a c) (sym (ap (take (length sent)) whole ∙ take-append_seam sent rest)) (Appends-keeps a b c sent before kept))

-- a fault before the end of the first part
front-before : (a c : Option (List ℕ)) (y z : List ℕ) → SendsFront a c y → SendsFront a c (y ++ z)
front-before a c y z (n, less, q) = (n, omega (arith, length-append y z, less), subst (Appends a c) (sym (take-append-le n y z (omega (arith, less)))) q)

-- a fault in the middle
pub stopped : (a b c : Option (List ℕ)) (x y z all : List ℕ) → Appends a b x → SendsFront b c y → all ≡ x ++ (y ++ z) → SendsFront a c all
stopped a b c x y z all p front is = subst (SendsFront a c) (sym is) (front-then a b c x (y ++ z) p (front-before b c y z front))

pub flat_map-split : {X : Type 0} (f : X → List ℕ) (xs : List X) (i : ℕ) (d : X) → i < length xs → flat_map f xs ≡ flat_map f (take i xs) ++ (f (get_or xs i d) ++ flat_map f (drop (suc i) xs))
flat_map-split f [] i d h = absurd (omega arith)
flat_map-split f (x ∷ xs) zero d h = flat_map-cons f x xs
flat_map-split f (x ∷ xs) (suc i) d h =
    flat_map-cons f x xs ∙ ap (λ (l : List ℕ). f x ++ l) (flat_map-split f xs i d (omega arith))
    ∙ sym (append_assoc (f x) (flat_map f (take i xs)) (f (get_or xs i d) ++ flat_map f (drop (suc i) xs))) ∙ ap (λ (l : List ℕ). l ++ (f (get_or xs i d) ++ flat_map f (drop (suc i) xs))) (sym (flat_map-cons f x (take i xs)))
