use Rattle.std.proofs.Common.{◌≡◌, ◌∙◌, ◌+◌, ◌++◌, ◌∷◌, [], ap, sym, subst, Ok, None}
use Rattle.std.specs.Option.{option_map}
use Rattle.mq_world.specs.Views.{request_of}
use Rattle.mq_jsonl.specs.Lines.{command_in}
use Rattle.mq_jsonl.specs.Reading.{reading}
use Rattle.mq_reach.specs.Faults.{IsFaultAmong}
use Rattle.mq_reach.specs.Search.{Applies, kind_of}
use Rattle.mq_reach.specs.Subscriptions.{subscriptions}
use Rattle.mq_reach.proofs.CommandLemmas.{Applies-none}
use Rattle.mq_reach.proofs.CountLemmas.{shown_in}
use Rattle.mq_reach.proofs.SearchLemmas.{if_err_then, if_ok_then, ok_then, said-is}
use Rattle.mq_reach.proofs.search.Search.read.Goals as goal

pub returns-in-Ok-None-clause-ok : goal.returns-in-Ok-None-clause-ok
returns-in-Ok-None-clause-ok c =
    let is : command_in (reading c.args.line.now) ≡ None =
    ap command_in (c.in-Ok-None.ensures.value
    ∙ ap (λ o. Ok (option_map request_of o)) c.in-Ok-None.field-0-is) in
    subst (λ command. Applies c.args.list.now command c.args.self.now c.args.self.now) (sym is)
    (Applies-none c.args.list.now c.args.self.now)

pub returns-in-Err-clause-ok : goal.returns-in-Err-clause-ok
returns-in-Err-clause-ok c =
    ok_then c.no_command.result
    (λ kind h. subst (λ said. Applies c.args.list.now (command_in said) c.args.self.now
    c.args.self.now)
    (sym (said-is c.in-Err.fault (reading c.args.line.now) h.1 c.in-Err.ensures.value))
    (Applies-none c.args.list.now c.args.self.now)) c.no_command.ensures.ok

pub returns-in-Err-clause-kind : goal.returns-in-Err-clause-kind
returns-in-Err-clause-kind c =
    if_ok_then c.no_command.result
    (λ kind h. h.0 ∙ ap (λ said. kind_of (shown_in (c.args.self.now.counts.lines + 1)
    c.args.self.now.sessions (command_in said)) said)
    (sym (said-is c.in-Err.fault (reading c.args.line.now) h.1 c.in-Err.ensures.value)))
    c.no_command.ensures.ok

pub returns-in-Err-clause-err : goal.returns-in-Err-clause-err
returns-in-Err-clause-err c = λ before is.
    if_err_then c.no_command.result
    (λ fault h. subst (IsFaultAmong c.args.list.now
    (subscriptions (before ++ c.args.line.now ∷ []))) (sym h) tt)
    c.no_command.ensures.err
