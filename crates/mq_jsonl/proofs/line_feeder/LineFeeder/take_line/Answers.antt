use Rattle.std.proofs.Common.{◌-◌, ◌++◌, ◌∷◌, [], Bool, List, ℕ, take, length, refl, ap, ◌∙◌}
use Rattle.std.specs.Prelude.{if◌then◌else◌}
use Rattle.mq_jsonl.proofs.FeedLemmas.{EndsLine-feed, EndsNone-text}
use Rattle.mq_jsonl.proofs.LongLemmas.{kept_number}
use Rattle.mq_jsonl.proofs.line_feeder.LineFeeder.take_line.Goals as goal

pub returns-in_default-clause-lines : goal.returns-in_default-clause-lines
returns-in_default-clause-lines c =
    EndsNone-text c.args.self.now _ c.args.bytes.now _ (record {
      room = kept_number;
      one = c.in_default.ensures;
      grown =
          ap (λ (t : Bool). if t then [] else c.keep_front.new.line.items)
          c.clear_whole.ensures.is_whole
          ∙ c.in_ok-keep_front.ensures
          ∙ ap (λ (l : List ℕ). l ++ take (1048577 - length l) c.args.bytes.now)
          c.clear_whole.ensures.line;
    })

pub returns-clause-lines : goal.returns-clause-lines
returns-clause-lines c = (
  c.in-Some.front.now ++ 10 ∷ [],
  c.in-Some.ensures.0,
  EndsLine-feed c.args.self.now _ c.in-Some.front.now _ (record {
    room = kept_number;
    one = c.in-Some.ensures.1;
    grown =
        c.in_ok-keep_front-2.ensures
        ∙ ap (λ (l : List ℕ). l ++ take (1048577 - length l) c.in-Some.front.now)
        c.clear_whole.ensures.line;
  }) refl,
)
