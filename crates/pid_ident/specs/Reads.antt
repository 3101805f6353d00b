-- Reads of a reader, one after another: how many there were, and what they brought.
use Rattle.std.specs.Prelude.{◌≡◌, ℕ, ◌+◌, ◌-◌, ◌^◌, ◌<◌, ◌≤◌, min, length, List, [], ◌∷◌, ◌++◌}
use Rattle.std.specs.Prelude.{Option, Some, None}
use Rattle.std.specs.Io.KnownBytes.{Consumes}
use Rattle.pid_file.specs.declared.io.ReadFault.{ReadFault}
use Rattle.pid_ident.specs.Moments.{Moment}
use Rattle.pid_ident.specs.declared.incoming.Incoming.{Ghosts}

-- what is known of a reader at some time: its count of reads, the bytes to come, the fault that it
-- keeps, and the moments at which it was read
pub record ReaderState : Type 0 where
  pub reads : ℕ
  pub come : Option (List ℕ)
  pub fault : Option ReadFault
  pub moments : Option (List Moment)

abbrev pub reader_at : {I W : Type 0} → Ghosts I W → I → ReaderState
reader_at ghosts reader = record {
  reads = ghosts.reads reader;
  come = ghosts.to_come reader;
  fault = ghosts.read_fault reader;
  moments = ghosts.moments reader;
}

-- So many moments came to an account, and this holds of the list of them. If none is kept any more
-- nothing is said.
abbrev pub AddsMoments : ℕ → (List Moment → Type 0) → (earlier now : Option (List Moment)) → Type 0
AddsMoments made Holds earlier None = Unit {0}
AddsMoments made Holds None (Some now) = ⊥
AddsMoments made Holds (Some earlier) (Some now) = (later : List Moment) × (now ≡ earlier ++ later)
    × (length later ≡ made) × Holds later

-- a read brought a byte or more: what was to come before it, and what is to come after it
abbrev pub BringsSome : Option (List ℕ) → Option (List ℕ) → Type 0
BringsSome now next = (piece : List ℕ) × Consumes now next piece × (0 < length piece)

-- The moments of reads, from what is to come before them to what is to come after them. At each
-- moment what the read before it left is to come. Each read brought something, except that the last
-- ones, so many, may be idle: an idle read finds the end, or fails.
abbrev pub AreNoted : ℕ → Option (List ℕ) → List Moment → Option (List ℕ) → Type 0
AreNoted idle now [] last = now ≡ last
AreNoted idle now (m ∷ ms) last = (next : Option (List ℕ)) × (m.to_come ≡ now)
    × (idle ≤ length ms → BringsSome now next) × AreNoted idle next ms last

-- so many reads were made, and the last ones, so many, may be idle
pub record AreReads (made idle : ℕ) (before after : ReaderState) : Type 0 where
  -- the reader counts them, up to its greatest number
  pub most : after.reads ≤ before.reads + made
  pub counted : before.reads < 2 ^ 64 → after.reads ≡ min (before.reads + made) (2 ^ 64 - 1)
  -- these bytes came, and there are no more reads than bytes, but for the idle ones
  pub brought : List ℕ
  pub consumed : Consumes before.come after.come brought
  pub some : made ≤ length brought + idle
  -- an account has a moment for each
  pub noted : AddsMoments made (λ ms. AreNoted idle before.come ms after.come)
      before.moments after.moments
