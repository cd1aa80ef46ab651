-- Which texts the files of a question have.
use Rattle.std.specs.Prelude.{◌≡◌, ℕ, true, List, Option, IfSome}
use Rattle.mq_acl_args.specs.Files.{is_input}

-- the file may have this text: standard input, where it shows its bytes, has all that it holds. What another file holds, no
-- contract can say
abbrev pub IsTextOf : (input : Option (List ℕ)) → (file text : List ℕ) → Type 0
IsTextOf input file text = is_input file ≡ true → IfSome input (λ bytes. text ≡ bytes)
