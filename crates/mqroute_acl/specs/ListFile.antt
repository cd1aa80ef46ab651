-- The file of an access list.
use Rattle.std.specs.Prelude.{◌≡◌, ◌+◌, ◌<◌, ◌==◌, ℕ, List, count_by, length, take, IsUtf8, ⊤}
use Rattle.std.specs.Str.Lossy.{utf8_valid_len}
use Rattle.mqroute_acl.specs.declared.list_file.FileFault.{FileFault}
use Rattle.mqroute_acl.specs.declared.list_file.FileFault.TheVariants as fault

-- how many bytes the file may have
unfoldable pub file_limit : ℕ
file_limit = 16777216

-- the number of the line that goes on behind these bytes
abbrev pub line_after : List ℕ → ℕ
line_after bytes = count_by (λ b. b == 10) bytes + 1

-- the line with the first byte that makes the bytes no text
abbrev pub bad_line : List ℕ → ℕ
bad_line bytes = line_after (take (utf8_valid_len bytes) bytes)

-- the bytes have this fault; of a reader that fails, or of memory, they say nothing
abbrev pub IsFaultIn : FileFault → List ℕ → Type 0
IsFaultIn fault.TooLong bytes = file_limit < length bytes
IsFaultIn (fault.Utf8 line) bytes = (¬ IsUtf8 bytes) × (line ≡ bad_line bytes)
IsFaultIn (fault.Read error) bytes = ⊤
IsFaultIn fault.Memory bytes = ⊤
