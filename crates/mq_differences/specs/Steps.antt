-- The steps that questions take.
use Rattle.std.specs.Prelude.{ℕ, ◌+◌, ◌*◌}

abbrev pub square : ℕ → ℕ
square n = n * n

-- for each class of clients, of which there are two more than rows, and for each row, each other row
-- may be asked about against all rows; and that again for each client id and user name that is tried,
-- level by level
abbrev pub enough_steps : ℕ → ℕ
enough_steps rows = square (square (32 * (rows + 2)))
