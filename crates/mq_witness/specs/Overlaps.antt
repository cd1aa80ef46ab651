-- Levels of filters that a name's level can pass.
use Rattle.std.specs.Prelude.{ℕ, Bool, List, ◌&&◌, ◌||◌, codes}
use Rattle.std.specs.Str.{bytes_eq}

-- several levels may pass: `+`, and in a `pattern` row `%c` and `%u`
abbrev pub is_loose : Bool → List ℕ → Bool
is_loose pattern w =
    bytes_eq w (codes "+") || (pattern && (bytes_eq w (codes "%c") || bytes_eq w (codes "%u")))
