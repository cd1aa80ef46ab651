use Rattle.std.proofs.Common.{◌≡◌, Ok, ◌∙◌, sym, ap, refl, rules, string_bytes, arith}
use Rattle.std.specs.Option.{option_copied}
use Rattle.mq_world.specs.World.{Connect, Disconnect, Unsubscribe, SetAcl, Stat}
use Rattle.mq_world.specs.Views.{request_of}
use Rattle.mq_router.proofs.RouterLemmas.{stat-does}
use Rattle.mq_router.proofs.WorldLemmas.{applied_answers, applied_counts, none_counted}
use Rattle.mq_router.proofs.router.Router.apply_counted.Goals as goal

pub returns-in-Connect : goal.returns-in-Connect
returns-in-Connect c =
    let clean = c.in-Connect.clean in
    let interval = c.in-Connect.session_expiry in
    let is : Connect c.deref.result.now (option_copied c.as_deref.result) clean interval
    ≡ request_of c.args.command.now =
    ap (λ id. Connect id (option_copied c.as_deref.result) clean interval) c.deref.ensures
    ∙ ap (λ user. Connect (string_bytes c.in-Connect.client) user clean interval)
    c.as_deref.ensures.value
    ∙ ap request_of (sym c.in-Connect.is) in
    record {
      answered = applied_answers _ _ _ _ _ is c.connect.ensures.applied;
      counted = none_counted c.args.self.now _ _ c.connect.result _ is refl;
      err = search rules;
      no_memory = search rules;
    }

pub returns-in-Disconnect : goal.returns-in-Disconnect
returns-in-Disconnect c =
    let is : Disconnect c.deref-in-Disconnect.result.now ≡ request_of c.args.command.now =
    ap (λ id. Disconnect id) c.deref-in-Disconnect.ensures
    ∙ ap request_of (sym c.in-Disconnect.is) in
    record {
      answered = applied_answers _ _ _ _ _ is c.disconnect.ensures.applied;
      counted = none_counted c.args.self.now _ _ c.disconnect.result _ is refl;
      err = search rules;
      no_memory = search rules;
    }

pub returns-in-Subscribe : goal.returns-in-Subscribe
returns-in-Subscribe c = grind (arith, applied_answers, applied_counts)

pub returns-in-Unsubscribe : goal.returns-in-Unsubscribe
returns-in-Unsubscribe c =
    let is : Unsubscribe c.deref-in-Unsubscribe.result.now c.deref-in-Unsubscribe-2.result.now
    ≡ request_of c.args.command.now =
    ap (λ id. Unsubscribe id c.deref-in-Unsubscribe-2.result.now) c.deref-in-Unsubscribe.ensures
    ∙ ap (λ text. Unsubscribe (string_bytes c.in-Unsubscribe.client) text)
    c.deref-in-Unsubscribe-2.ensures
    ∙ ap request_of (sym c.in-Unsubscribe.is) in
    record {
      answered = applied_answers _ _ _ _ _ is c.unsubscribe.ensures.applied;
      counted = none_counted c.args.self.now _ _ c.unsubscribe.result _ is refl;
      err = search rules;
      no_memory = search rules;
    }

pub returns-in-Publish : goal.returns-in-Publish
returns-in-Publish c = grind (arith, applied_answers, applied_counts)

pub returns-in-SetAcl : goal.returns-in-SetAcl
returns-in-SetAcl c =
    let is : SetAcl (option_copied c.as_deref-in-SetAcl.result) ≡ request_of c.args.command.now =
    ap (λ text. SetAcl text) c.as_deref-in-SetAcl.ensures.value
    ∙ ap request_of (sym c.in-SetAcl.is) in
    record {
      answered = applied_answers _ _ _ _ _ is c.set_acl.ensures.applied;
      counted = none_counted c.args.self.now _ _ c.set_acl.result _ is refl;
      err = search rules;
      no_memory = search rules;
    }

pub returns-in-Advance : goal.returns-in-Advance
returns-in-Advance c = grind (arith, applied_answers, applied_counts)

pub returns-in-Stat : goal.returns-in-Stat
returns-in-Stat c =
    let is : Stat ≡ request_of c.args.command.now = ap request_of (sym c.in-Stat.is) in
    record {
      answered = applied_answers _ _ _ (Ok c.stat.result) _ is (stat-does _ _ c.stat.ensures);
      counted = none_counted c.args.self.now _ _ (Ok c.stat.result) _ is refl;
      err = search rules;
      no_memory = search rules;
    }
