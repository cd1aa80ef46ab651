use Rattle.std.proofs.Common.{◌≡◌, ◌<◌, ◌++◌, ℕ, replicate, string_bytes, true}
use Rattle.mq_through.specs.Clients.{is_named}
use Rattle.mq_through.proofs.fresh.fresh_text.Given as goal

-- the shorter texts are named
abbrev pub invariant-loop-count : goal.invariant-loop-count
invariant-loop-count l = record {
  is : string_bytes l.text ≡ l.base ++ replicate l._count 120;
  named : (k : ℕ) → k < l._count → is_named l.comparison (l.base ++ replicate k 120) ≡ true;
}
