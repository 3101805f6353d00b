-- The path that fields say, by what its two checks look at: whether it is alone, and what it reads as.
use Rattle.std.proofs.Common.{◌≡◌, Bool, true, false, [], ◌∷◌, Option, Some, None, Result, Ok, Err, refl}
use Rattle.std.specs.Prelude.{not, is_none}
use Rattle.pid_file.specs.declared.path.Path.{Path}
use Rattle.pid_moderation.specs.declared.refusal.Refusal.{Refusal}
use Rattle.pid_moderation.specs.declared.refusal.Refusal.TheVariants.{BadText, BadPath}
use Rattle.pid_moderation.specs.CheckTables.{first_failing}
use Rattle.pid_script.specs.Asking.{refused_or}

abbrev pub path_by : Bool → Option Path → Result Path Refusal
path_by alone path = refused_or (first_failing ((not alone, BadText) ∷ (is_none path, BadPath) ∷ [])) path

pub not_alone : (alone : Bool) (path : Option Path) → false ≡ alone → Err BadText ≡ path_by alone path
not_alone true path is = absurd cc
not_alone false path is = refl

pub no_path : (alone : Bool) (path : Option Path) → true ≡ alone → None ≡ path → Err BadPath ≡ path_by alone path
no_path false path is none = absurd cc
no_path true None is none = refl
no_path true (Some p) is none = absurd cc

pub a_path : (alone : Bool) (path : Option Path) (p : Path) → true ≡ alone → Some p ≡ path → Ok p ≡ path_by alone path
a_path false path p is some = absurd cc
a_path true None p is some = absurd cc
a_path true (Some q) p is some = cc
