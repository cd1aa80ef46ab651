use Rattle.std.proofs.Common.{◌≤◌, ℕ, subst, refl}
use Rattle.std.proofs.lemmas.Bool.{le-ltb, lt-ltb}
use Rattle.mq_world.specs.Clock.{last_moment}
use Rattle.mq_reach.proofs.EndedLemmas.{advance-refused, advance-taken}
use Rattle.mq_reach.proofs.search.Search.advance.Goals as goal

pub returns-in_default : goal.returns-in_default
returns-in_default c = λ list.
    advance-refused list c.args.seconds c.args.self.now
    (lt-ltb last_moment _ c.in_default.ensures.none)

pub returns : goal.returns
returns c = λ list.
    advance-taken list c.args.seconds c.args.self.now _
    (le-ltb last_moment _ (subst (λ (m : ℕ). m ≤ last_moment) c.in-Some.ensures.some
    c.in-Some.clock.within))
    c.in-Some.ensures.some c.end_sessions.ensures.sessions c.end_sessions.ensures.tracked refl
