-- Lists that are answered page by page.
use Rattle.std.specs.Prelude.{ℕ, zero, suc, ◌==◌, if◌then◌else◌, List, [], ◌∷◌, ◌++◌}
use Rattle.pid_moderation.specs.SubmissionPages.{Listing, ListingPage}

-- the key of the last entry of a page, after which the next one is asked; of a page without
-- entries this one, after which it was asked
abbrev pub last_of : {X K : Type 0} → (X → K) → K → List X → K
last_of key asked [] = asked
last_of key asked (entry ∷ page) = last_of key (key entry) page

-- so many pages, each asked after the last entry of the one before
abbrev pub pages_after : {X K : Type 0} → (X → K) → (K → List X) → ℕ → K → List X
pages_after key page zero asked = []
pages_after key page (suc count) asked = page asked ++ pages_after key page count
    (last_of key asked (page asked))

-- so many pages, each below the number that the one before names, until one names 0
abbrev pub pages_down : (ℕ → ListingPage) → ℕ → ℕ → List Listing
pages_down page zero before = []
pages_down page (suc count) before = (page before).submissions
    ++ (if (page before).before == 0 then [] else pages_down page count (page before).before)
