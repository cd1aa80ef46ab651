-- What a call adds to the number of a device's failures.
use Rattle.std.specs.Prelude.{◌==◌, ◌&&◌, ℕ, cond, Result, Ok, Err, nat_lt}

-- an error adds one
abbrev pub failed : {T E : Type 0} → Result T E → ℕ
failed (Ok x) = 0
failed (Err e) = 1

-- so does a write that takes no byte of at least one
abbrev pub write_failed : {E : Type 0} → Result ℕ E → ℕ → ℕ
write_failed (Ok n) len = cond ((n == 0) && nat_lt 0 len) 1 0
write_failed (Err e) len = 1
