-- One read, and reads of which none is idle.
use Rattle.std.proofs.Common.{◌≡◌, ℕ, ◌+◌, ◌-◌, ◌^◌, ◌<◌, List, [], ◌∷◌, Option, Some, None, refl, length, arith}
use Rattle.std.specs.Prelude.{min}
use Rattle.std.specs.Io.KnownBytes.{Consumes}
use Rattle.pid_http_stream.specs.Moments.{Moment}
use Rattle.pid_ident.specs.Steps.Moments.{IsNoted}
use Rattle.pid_http_stream.specs.Reads.{ReaderState, AddsMoments, AreNoted, AreReads, BringsSome}

all_but : (n : ℕ) (a b : Option (List ℕ)) (ms : List Moment) → AreNoted 0 a ms b → AreNoted n a ms b
all_but n a b [] same = same
all_but n a b (m ∷ ms) (next, here, some, p) = (next, here, λ h. some (omega arith), all_but n next b ms p)

noted_but : (made n : ℕ) (a b : Option (List ℕ)) (x y : Option (List Moment)) → AddsMoments made (λ ms. AreNoted 0 a ms b) x y → AddsMoments made (λ ms. AreNoted n a ms b) x y
noted_but made n a b x None p = tt
noted_but made n a b None (Some now) p = absurd p
noted_but made n a b (Some first) (Some now) (later, e, many, all) = (later, e, many, all_but n a b later all)

-- one read
one_noted : (n : ℕ) (come left taken : Option (List ℕ)) (x y : Option (List Moment)) → (n ≡ 0 → BringsSome come left) → IsNoted come taken x y → AddsMoments 1 (λ ms. AreNoted n come ms left) x y
one_noted n come left taken x None brings noted = tt
one_noted n come left taken None (Some now) brings noted = absurd noted
one_noted n come left taken (Some first) (Some now) brings noted =
    ((record { to_come = come; taken = taken }) ∷ [], noted, refl, (left, refl, λ h. brings (omega arith), refl))

-- where none is idle, so many may be
pub with_idle : (made n : ℕ) (a b : ReaderState) → AreReads made 0 a b → AreReads made n a b
with_idle made n a b p = record {
  most = p.most;
  counted = p.counted;
  brought = p.brought;
  consumed = p.consumed;
  some = omega (arith, p.some);
  noted = noted_but made n a.come b.come a.moments b.moments p.noted;
}

-- one read that brought something, and one of which that is not known
pub one_read : (a b : ReaderState) (taken : Option (List ℕ)) (piece : List ℕ)
    → b.reads ≡ min (a.reads + 1) (2 ^ 64 - 1) → Consumes a.come b.come piece → 0 < length piece
    → IsNoted a.come taken a.moments b.moments → AreReads 1 0 a b
one_read a b taken piece count read some noted = record {
  most = omega arith;
  counted = λ h. count;
  brought = piece;
  consumed = read;
  some = omega arith;
  noted = one_noted 0 a.come b.come taken a.moments b.moments (λ h. (piece, read, some)) noted;
}

pub last_read : (a b : ReaderState) (taken : Option (List ℕ)) (piece : List ℕ)
    → b.reads ≡ min (a.reads + 1) (2 ^ 64 - 1) → Consumes a.come b.come piece
    → IsNoted a.come taken a.moments b.moments → AreReads 1 1 a b
last_read a b taken piece count read noted = record {
  most = omega arith;
  counted = λ h. count;
  brought = piece;
  consumed = read;
  some = omega arith;
  noted = one_noted 1 a.come b.come taken a.moments b.moments (λ h. absurd (omega arith)) noted;
}
