-- The text of a path is UTF-8.
use Rattle.std.proofs.Common.{ℕ, zero, suc, ◌<◌, ◌/◌, ◌%◌, List, [], ◌∷◌, ◌++◌, arith}
use Rattle.std.specs.Prelude.{IsUtf8}
use Rattle.std.specs.Char.{digit_char}
use Rattle.std.specs.List.{AllByRecursion}
use Rattle.std.specs.Str.{IsAscii}
use Rattle.std.proofs.lemmas.Str.{IsUtf8-from_ascii}
use Rattle.pid_file.specs.declared.path.Path.{Path}
use Rattle.pid_file.specs.declared.path.Path.TheVariants.{Vendor, Device, Subsystem, Class, Subclass, ProgIf, Generic}
use Rattle.pid_ident.specs.Identifiers.{hex4, hex2}
use Rattle.pid_ident.specs.PathTexts.{path_text}

abbrev AreSmall : List ℕ → Type 0
AreSmall = AllByRecursion (λ b. b < 128)

small : (n : ℕ) → digit_char (n % 16) < 128
small n = grind arith

of_four : (n : ℕ) (rest : List ℕ) → AreSmall rest → AreSmall (hex4 n ++ rest)
of_four n rest h = (small (n / 4096), (small (n / 256), (small (n / 16), (small n, h))))

of_two : (n : ℕ) (rest : List ℕ) → AreSmall rest → AreSmall (hex2 n ++ rest)
of_two n rest h = (small (n / 16), (small n, h))

behind : (front letter : ℕ) (rest : List ℕ) → front < 128 → letter < 128 → AreSmall rest → AreSmall (front ∷ letter ∷ 47 ∷ rest)
behind front letter rest p q h = (p, (q, (omega arith, h)))

slash : (rest : List ℕ) → AreSmall rest → AreSmall (47 ∷ rest)
slash rest h = (omega arith, h)

abbrev one : ℕ → List ℕ
one n = hex4 n ++ []

abbrev pair : ℕ → List ℕ
pair n = hex2 n ++ []

path_small : (p : Path) → AreSmall (path_text p)
path_small (Vendor v) = behind 80 67 (one v) (omega arith) (omega arith) (of_four v [] tt)
path_small (Device v d) = behind 80 67 (hex4 v ++ (47 ∷ one d)) (omega arith) (omega arith) (of_four v (47 ∷ one d) (slash (one d) (of_four d [] tt)))
path_small (Subsystem v d s e) =
    behind 80 67 (hex4 v ++ (47 ∷ hex4 d ++ (47 ∷ hex4 s ++ one e))) (omega arith) (omega arith)
    (of_four v (47 ∷ hex4 d ++ (47 ∷ hex4 s ++ one e)) (slash (hex4 d ++ (47 ∷ hex4 s ++ one e)) (of_four d (47 ∷ hex4 s ++ one e) (slash (hex4 s ++ one e) (of_four s (one e) (of_four e [] tt))))))
path_small (Class c) = behind 80 68 (pair c) (omega arith) (omega arith) (of_two c [] tt)
path_small (Subclass c s) = behind 80 68 (hex2 c ++ (47 ∷ pair s)) (omega arith) (omega arith) (of_two c (47 ∷ pair s) (slash (pair s) (of_two s [] tt)))
path_small (ProgIf c s p) =
    behind 80 68 (hex2 c ++ (47 ∷ hex2 s ++ (47 ∷ pair p))) (omega arith) (omega arith)
    (of_two c (47 ∷ hex2 s ++ (47 ∷ pair p)) (slash (hex2 s ++ (47 ∷ pair p)) (of_two s (47 ∷ pair p) (slash (pair p) (of_two p [] tt)))))
path_small (Generic v d) = behind 80 83 (hex4 v ++ (47 ∷ one d)) (omega arith) (omega arith) (of_four v (47 ∷ one d) (slash (one d) (of_four d [] tt)))

to_ascii : (bs : List ℕ) → AreSmall bs → IsAscii bs
to_ascii [] h i = omega arith
to_ascii (b ∷ bs) h zero = h.0
to_ascii (b ∷ bs) h (suc i) = to_ascii bs h.1 i

pub path_utf8 : (p : Path) → IsUtf8 (path_text p)
path_utf8 p = IsUtf8-from_ascii (path_text p) (to_ascii (path_text p) (path_small p))
