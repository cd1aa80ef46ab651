-- What is appended to known bytes, in pieces.
use Rattle.std.proofs.Common.{◌-◌, ℕ, ◌+◌, length, List, Option, take, drop, sym, take-append-drop}
use Rattle.std.specs.Io.KnownBytes.{Appends}
use Rattle.std.proofs.KnownBytes.{Appends-trans}
use Rattle.std.proofs.Math.Seq.{take-add}
use Rattle.mq_jsonl.proofs.PieceLemmas.{rest_whole}
use Rattle.mq_run.specs.Ending.{AppendsSome}

-- a front of a text is part of it
pub AppendsSome-take : (a b : Option (List ℕ)) (n : ℕ) (text : List ℕ) → Appends a b (take n text)
    → AppendsSome a b text
AppendsSome-take a b n text p = (take n text, p, (drop n text, sym (take-append-drop n text)))

-- after the first i bytes of a text, the next n are appended
pub Appends-more : (a b c : Option (List ℕ)) (i n : ℕ) (t : List ℕ) → Appends a b (take i t)
    → Appends b c (take n (take (length t - i) (drop i t))) → Appends a c (take (i + n) t)
Appends-more a b c i n t p q =
    let r : Appends b c (take n (drop i t)) = rw rest_whole at q in
    rw (take-add i n t) (Appends-trans a b c (take i t) (take n (drop i t)) p r)
