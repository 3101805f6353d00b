-- Serves private functions alone; no promise rests on it.
-- What the names that were found show.
use Rattle.std.specs.Prelude.{◌≡◌, ◌++◌, ℕ, Bool, true, false, List, Option, Some, None}
use Rattle.std.specs.Prelude.{Result, Ok, Err, codes, if◌then◌else◌}
use Rattle.pid_file.specs.declared.path.Path.{Path}
use Rattle.pid_lookup.specs.declared.args.Args.{Args}
use Rattle.pid_lookup.specs.declared.find.Found.{Found}
use Rattle.pid_lookup.specs.declared.find.Found.TheVariants as found
use Rattle.pid_lookup.specs.declared.flags.Request.{Request}
use Rattle.pid_lookup.specs.Flags.{Switches}
use Rattle.pid_lookup.specs.Found.{ide_words}
use Rattle.pid_lookup.specs.Layouts.{bracketed, one_text, pair_text}
use Rattle.pid_lookup.specs.Answers.{request_number, request_text, with_numbers, request_word}

-- words for a name that is not there, with the number, which alone after them may be a short one
abbrev pub unnamed_text : Switches → List ℕ → List ℕ → List ℕ → Option (List ℕ)
unnamed_text s number short words =
    if s.no_numbers then None else
    (if s.numeric then Some number else
    (if s.mixed then Some (words ++ bracketed number) else
    Some (words ++ codes " " ++ short)))

abbrev pub found_text : Switches → List ℕ → List ℕ → Found → Option (List ℕ)
found_text s number word (found.One name) = one_text s number word name
found_text s number word (found.Ide words) = one_text s number word (Some words)
found_text s number word (found.ClassOnly name) = one_text (with_numbers s) number word (Some name)
found_text s number word (found.Pair v d) = pair_text s number v d

-- one name, or a fault
abbrev pub found_one : {F : Type 0} → Result (Option (List ℕ)) F → Result Found F
found_one (Ok name) = Ok (found.One name)
found_one (Err fault) = Err fault

-- an interface that has no name: words for an IDE controller's
abbrev pub nameless : Bool → ℕ → Found
nameless true progif = found.Ide (ide_words progif)
nameless false progif = found.One None

-- it is what the request is about: however it is shown, its text is that of the request
pub record IsFoundFor (found : Found) (named : Path → Option (List ℕ)) (request : Request)
    (a : Args) : Type 0 where
  pub shown : (s : Switches) → found_text s (request_number request a) (request_word request) found
      ≡ request_text named s request a
