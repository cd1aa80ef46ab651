use Rattle.std.proofs.Common.{refl, sym, ◌∙◌, ap, subst, arith, List, [], ◌∷◌, map, Some}
use Rattle.mq_world.specs.Sessions.{session_of}
use Rattle.mq_world.specs.Lists.{text_cmp}
use Rattle.mq_world.specs.World as world
use Rattle.mq_sessions.specs.Views.{session_at, session_in}
use Rattle.mq_sessions.specs.Walks.{AreLeft, IsAhead}
use Rattle.mq_sessions.proofs.WalkLemmas.{found_here, found_past, found_none, walked_on, stepped}
use Rattle.mq_sessions.proofs.sessions.walk.Walk.find.Goals as goal

pub loop-self-init : goal.loop-self-init
loop-self-init c = record { ahead = c.self.invariant; same = refl }

pub loop-self-smaller : goal.loop-self-smaller
loop-self-smaller c =
    let rest = stepped c.next-self-inside.result c.loop-self.self-inside.rest
    c.next-self-inside.new.self c.next-self-inside.ensures.steps in
    grind (arith, rest, c.in-Some.is)

pub loop-self-preserved : goal.loop-self-preserved
loop-self-preserved c =
    let before : List world.Session = map session_in c.loop-self.self-inside.rest in
    let are : AreLeft c.loop-self.self-inside.sessions.now c.loop-self.self-inside.past
    (session_in (c.in-Some.key.now, c.in-Some.session.now) ∷ before) =
    subst (λ a. IsAhead c.loop-self.self-inside.sessions.now c.loop-self.self-inside.past a
    c.loop-self.self-inside.rest) c.in-Some.is c.loop-self.invariant.ahead in
    record {
      ahead = subst (λ l. AreLeft c.loop-self.self-inside.sessions.now (Some c.in-Some.key)
          (map session_in l))
          (stepped c.next-self-inside.result c.loop-self.self-inside.rest
          c.next-self-inside.new.self c.next-self-inside.ensures.steps)
          (walked_on c.loop-self.self-inside.sessions.now c.loop-self.self-inside.past
          (session_in (c.in-Some.key.now, c.in-Some.session.now)) before are c.in-Some.key refl);
      same = c.loop-self.invariant.same;
    }

pub invariant_of-self : goal.invariant_of-self
invariant_of-self c = c.loop-self.invariant.ahead

pub returns-in-Equal-clause-found : goal.returns-in-Equal-clause-found
returns-in-Equal-clause-found c =
    let rest : List world.Session = map session_in c.loop-self.self-inside.rest in
    let found = found_here c.loop-self.self-inside.sessions.now c.loop-self.self-inside.past
    (session_in (c.in-Some.key.now, c.in-Some.session.now)) rest
    (subst (λ a. IsAhead c.loop-self.self-inside.sessions.now c.loop-self.self-inside.past a
    c.loop-self.self-inside.rest) c.in-Some.is c.loop-self.invariant.ahead) c.args.id.now
    (ap (λ t. text_cmp t c.args.id.now) (sym c.as_str.ensures.value) ∙ sym c.cmp.ensures
    ∙ c.in-Equal.is) in
    ap (λ t. Some (session_at t c.in-Some.session.now)) (sym found.1) ∙ found.0
    ∙ ap (λ (l : List world.Session). session_of l c.args.id.now)
    (ap (λ s. s.now) c.loop-self.invariant.same ∙ c.self.view_is)

pub invariant_of-self-in-Greater : goal.invariant_of-self-in-Greater
invariant_of-self-in-Greater c = c.loop-self.invariant.ahead

pub returns-in-Greater-clause-found : goal.returns-in-Greater-clause-found
returns-in-Greater-clause-found c =
    let rest : List world.Session = map session_in c.loop-self.self-inside.rest in
    c.find_past.ensures
    ∙ found_past c.loop-self.self-inside.sessions.now c.loop-self.self-inside.past
    (session_in (c.in-Some.key.now, c.in-Some.session.now)) rest
    (subst (λ a. IsAhead c.loop-self.self-inside.sessions.now c.loop-self.self-inside.past a
    c.loop-self.self-inside.rest) c.in-Some.is c.loop-self.invariant.ahead) c.args.id.now
    (ap (λ t. text_cmp t c.args.id.now) (sym c.as_str.ensures.value) ∙ sym c.cmp.ensures
    ∙ c.in-Greater.is)
    ∙ ap (λ (l : List world.Session). session_of l c.args.id.now)
    (ap (λ s. s.now) c.loop-self.invariant.same ∙ c.self.view_is)

pub invariant_of-self-2 : goal.invariant_of-self-2
invariant_of-self-2 c = c.loop-self.invariant.ahead

pub returns-clause-found : goal.returns-clause-found
returns-clause-found c =
    c.find_past-2.ensures
    ∙ found_none c.loop-self.self-inside.sessions.now c.loop-self.self-inside.past []
    c.args.id.now
    (subst (λ a. IsAhead c.loop-self.self-inside.sessions.now c.loop-self.self-inside.past a
    c.loop-self.self-inside.rest) c.in_default.is c.loop-self.invariant.ahead) tt
    ∙ ap (λ (l : List world.Session). session_of l c.args.id.now)
    (ap (λ s. s.now) c.loop-self.invariant.same ∙ c.self.view_is)
