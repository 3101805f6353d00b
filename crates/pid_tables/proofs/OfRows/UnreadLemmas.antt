-- Values that keep their rules are read, but for want of memory.
use Rattle.std.proofs.Common.{◌≡◌, ℕ, zero, suc, ◌<◌, List, [], ◌∷◌, ◌++◌, true, arith}
use Rattle.std.specs.List.{list_all}
use Rattle.std.specs.Char.{digit_char}
use Rattle.std.specs.Str.{is_utf8, IsUtf8, IsAscii}
use Rattle.std.proofs.lemmas.Str.{is_utf8-from_IsUtf8, IsUtf8-from_ascii, IsUtf8-append}
use Rattle.std.proofs.lemmas.Bool.{and_parts}
use Rattle.std.proofs.lemmas.Bool.Decides.{nat_tests}
use Rattle.sqlite.specs.State.{State}
use Rattle.pid_ident.specs.Identifiers.{hex4, hex2}
use Rattle.pid_ident.specs.PathTexts.{path_text}
use Rattle.pid_ident.specs.Words.{is_name, is_account, is_account_byte, is_text}
use Rattle.pid_file.specs.declared.path.Path.{Path}
use Rattle.pid_file.specs.declared.path.Path.TheVariants.{Vendor, Device, Subsystem, Class, Subclass, ProgIf, Generic}
use Rattle.pid_tables.specs.declared.rows.fault.TableFault.{TableFault}
use Rattle.pid_tables.specs.declared.rows.fault.TableFault.TheVariants.{Memory, Store, NewerSchema, Damaged}
use Rattle.pid_tables.specs.Rows.Causes.{IsCaused}
use Rattle.pid_tables.specs.Rows.Steps.Unread.{IsDamagedRow}

-- what is written as it should be is read
pub caused_unread : {Written : Type 0} (old new : State) (e : TableFault) → Written → IsDamagedRow Written e → IsCaused old new e
caused_unread old new Memory good h = tt
caused_unread old new Store good h = absurd h
caused_unread old new (NewerSchema n) good h = absurd h
caused_unread old new Damaged good h = absurd (h good)

pub unread_more : {Less More : Type 0} (e : TableFault) → (Less → More) → IsDamagedRow More e → IsDamagedRow Less e
unread_more Memory f h = tt
unread_more Store f h = h
unread_more (NewerSchema n) f h = h
unread_more Damaged f h = λ less. h (f less)

-- ---- texts

pub name_utf8 : (t : List ℕ) → is_name t ≡ true → is_utf8 t ≡ true
name_utf8 t h = (and_parts _ _ (and_parts _ _ (and_parts _ _ (and_parts _ _ h).0).0).0).0

pub text_utf8 : (t : List ℕ) → is_text t ≡ true → is_utf8 t ≡ true
text_utf8 t h = (and_parts _ _ (and_parts _ _ h).0).0

one_ascii : (b : ℕ) → b < 128 → IsAscii (b ∷ [])
one_ascii b low zero = low
one_ascii b low (suc i) = omega arith

before : (b : ℕ) (bs : List ℕ) → b < 128 → IsUtf8 bs → IsUtf8 (b ∷ bs)
before b bs low h = IsUtf8-append (b ∷ []) bs (IsUtf8-from_ascii (b ∷ []) (one_ascii b low)) h

none : IsUtf8 []
none = IsUtf8-from_ascii [] (λ i. omega arith)

low_byte : (b : ℕ) → is_account_byte b ≡ true → b < 128
low_byte b h = grind (arith, nat_tests)

account_bytes : (t : List ℕ) → list_all is_account_byte t ≡ true → IsUtf8 t
account_bytes [] h = none
account_bytes (b ∷ bs) h = let p = and_parts _ _ h in before b bs (low_byte b p.0) (account_bytes bs p.1)

pub account_utf8 : (t : List ℕ) → is_account t ≡ true → is_utf8 t ≡ true
account_utf8 t h = is_utf8-from_IsUtf8 t (account_bytes t (and_parts _ _ h).1)

low_digit : (d : ℕ) → d < 16 → digit_char d < 128
low_digit d h = grind (arith, nat_tests)

four : (n : ℕ) (rest : List ℕ) → IsUtf8 rest → IsUtf8 (hex4 n ++ rest)
four n rest h = before _ _ (low_digit _ (omega arith)) (before _ _ (low_digit _ (omega arith)) (before _ _ (low_digit _ (omega arith)) (before _ _ (low_digit _ (omega arith)) h)))

two : (n : ℕ) (rest : List ℕ) → IsUtf8 rest → IsUtf8 (hex2 n ++ rest)
two n rest h = before _ _ (low_digit _ (omega arith)) (before _ _ (low_digit _ (omega arith)) h)

slash : (rest : List ℕ) → IsUtf8 rest → IsUtf8 (47 ∷ rest)
slash rest h = before 47 rest (omega arith) h

front : (b : ℕ) (rest : List ℕ) → b < 128 → IsUtf8 rest → IsUtf8 (80 ∷ b ∷ rest)
front b rest low h = before 80 _ (omega arith) (before b rest low h)

path_bytes : (p : Path) → IsUtf8 (path_text p)
path_bytes (Vendor v) = front 67 _ (omega arith) (slash _ (four v _ none))
path_bytes (Device v d) = front 67 _ (omega arith) (slash _ (four v _ (slash _ (four d _ none))))
path_bytes (Subsystem v d s e) = front 67 _ (omega arith) (slash _ (four v _ (slash _ (four d _ (slash _ (four s _ (four e _ none)))))))
path_bytes (Class c) = front 68 _ (omega arith) (slash _ (two c _ none))
path_bytes (Subclass c s) = front 68 _ (omega arith) (slash _ (two c _ (slash _ (two s _ none))))
path_bytes (ProgIf c s p) = front 68 _ (omega arith) (slash _ (two c _ (slash _ (two s _ (slash _ (two p _ none))))))
path_bytes (Generic v d) = front 83 _ (omega arith) (slash _ (four v _ (slash _ (four d _ none))))

pub path_utf8 : (p : Path) → is_utf8 (path_text p) ≡ true
path_utf8 p = is_utf8-from_IsUtf8 (path_text p) (path_bytes p)
