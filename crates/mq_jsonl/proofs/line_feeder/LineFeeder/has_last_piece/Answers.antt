use Rattle.std.proofs.Common.{◌≡◌, ◌∙◌, [], sym, ap, arith, Bool}
use Rattle.std.specs.Prelude.{if◌then◌else◌}
use Rattle.std.proofs.lemmas.Bool.{not-false}
use Rattle.mq_jsonl.specs.Feeding.{open_line}
use Rattle.mq_jsonl.proofs.FeedLemmas.{no_last}
use Rattle.mq_jsonl.proofs.LongLemmas.{nil_from_count}
use Rattle.mq_jsonl.proofs.line_feeder.LineFeeder.has_last_piece.Goals as goal

pub returns-then-self-clause-none : goal.returns-then-self-clause-none
returns-then-self-clause-none c = λ _ given holds.
    let f = c.args.self.now in
    let none : open_line f ≡ [] =
    ap (λ (t : Bool). if t then [] else f.line.items) c.if-self.true in
    no_last given f none holds

pub returns-clause-none : goal.returns-clause-none
returns-clause-none c = λ is given holds.
    let f = c.args.self.now in
    let none : open_line f ≡ [] =
    ap (λ (t : Bool). if t then [] else f.line.items) c.if-self.false
    ∙ nil_from_count f.line.len f.line.items (let v = f.line.ok.0 in omega arith)
    (sym c.is_empty.ensures ∙ not-false c.is_empty.result is) in
    no_last given f none holds
