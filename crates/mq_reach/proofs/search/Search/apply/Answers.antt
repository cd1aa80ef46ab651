use Rattle.std.proofs.Common.{Some, refl, string_bytes, subst, sym}
use Rattle.mq_world.specs.Views.{request_of}
use Rattle.mq_world.specs.World.{Disconnect, SubscriptionOptions, Unsubscribe}
use Rattle.mq_reach.specs.Search.{Applies}
use Rattle.mq_reach.proofs.CommandLemmas.{Applies-acl, Applies-publish, Applies-stat}
use Rattle.mq_reach.proofs.search.Search.apply.Goals as goal

pub returns-in-Subscribe-clause-err : goal.returns-in-Subscribe-clause-err
returns-in-Subscribe-clause-err c =
    let options : SubscriptionOptions = record {
      qos = c.in-Subscribe.qos;
      no_local = c.in-Subscribe.no_local;
      retain_as_published = c.in-Subscribe.rap;
      handling = c.in-Subscribe.handling;
      identifier = c.in-Subscribe.id;
    } in
    rw c.in-Subscribe.is (c.subscribe.ensures.err options refl)

pub returns-in-Subscribe-clause-ok : goal.returns-in-Subscribe-clause-ok
returns-in-Subscribe-clause-ok c =
    let options : SubscriptionOptions = record {
      qos = c.in-Subscribe.qos;
      no_local = c.in-Subscribe.no_local;
      retain_as_published = c.in-Subscribe.rap;
      handling = c.in-Subscribe.handling;
      identifier = c.in-Subscribe.id;
    } in
    rw c.in-Subscribe.is (c.subscribe.ensures.ok options refl)

pub returns-in-Subscribe-clause-kind : goal.returns-in-Subscribe-clause-kind
returns-in-Subscribe-clause-kind c =
    let options : SubscriptionOptions = record {
      qos = c.in-Subscribe.qos;
      no_local = c.in-Subscribe.no_local;
      retain_as_published = c.in-Subscribe.rap;
      handling = c.in-Subscribe.handling;
      identifier = c.in-Subscribe.id;
    } in
    rw c.in-Subscribe.is (c.subscribe.ensures.kind options refl)

pub returns-in-Disconnect-clause-ok : goal.returns-in-Disconnect-clause-ok
returns-in-Disconnect-clause-ok c =
    subst (λ command. Applies c.args.list.now (Some (request_of command)) c.args.self.now
    c.disconnect.new.self) (sym c.in-Disconnect.is)
    (subst (λ id. Applies c.args.list.now (Some (Disconnect id)) c.args.self.now
    c.disconnect.new.self) c.as_str-in-Disconnect.ensures.value
    (c.disconnect.ensures c.args.list.now))

pub returns-in-Unsubscribe-clause-ok : goal.returns-in-Unsubscribe-clause-ok
returns-in-Unsubscribe-clause-ok c =
    subst (λ command. Applies c.args.list.now (Some (request_of command)) c.args.self.now
    c.unsubscribe.new.self) (sym c.in-Unsubscribe.is)
    (subst (λ id. Applies c.args.list.now (Some (Unsubscribe id (string_bytes
    c.in-Unsubscribe.filter))) c.args.self.now c.unsubscribe.new.self)
    c.as_str-in-Unsubscribe.ensures.value
    (subst (λ own. Applies c.args.list.now (Some (Unsubscribe
    c.as_str-in-Unsubscribe.result.now own)) c.args.self.now c.unsubscribe.new.self)
    c.as_str-in-Unsubscribe-2.ensures.value
    (c.unsubscribe.ensures c.args.list.now)))

pub returns-in-Advance-clause-ok : goal.returns-in-Advance-clause-ok
returns-in-Advance-clause-ok c =
    subst (λ command. Applies c.args.list.now (Some (request_of command)) c.args.self.now
    c.advance.new.self) (sym c.in-Advance.is) (c.advance.ensures c.args.list.now)

pub returns-in-Publish-clause-ok : goal.returns-in-Publish-clause-ok
returns-in-Publish-clause-ok c =
    subst (λ command. Applies c.args.list.now (Some (request_of command)) c.args.self.now
    c.args.self.now) (sym c.in-Publish.is) (Applies-publish c.args.list.now _ c.args.self.now)

pub returns-in-SetAcl-clause-ok : goal.returns-in-SetAcl-clause-ok
returns-in-SetAcl-clause-ok c =
    subst (λ command. Applies c.args.list.now (Some (request_of command)) c.args.self.now
    c.args.self.now) (sym c.in-SetAcl.is) (Applies-acl c.args.list.now _ c.args.self.now)

pub returns-clause-ok : goal.returns-clause-ok
returns-clause-ok c =
    subst (λ command. Applies c.args.list.now (Some (request_of command)) c.args.self.now
    c.args.self.now) (sym c.in-Stat.is) (Applies-stat c.args.list.now c.args.self.now)
