-- `descend` by induction on how many levels are left. Rattle proves `lend` for any way to go on; here it is one that may be called with fewer than t levels, and then `descend` may be called with t.
-- `Walk` is the walk of its body, one call of `lend`. Both follow the signatures of `lend` and `descend`, and no step of `lend`.
-- The clauses are read as those of `get_mut`, which are the same: a library doesn't keep the reading of `descend`, and each crate above would check again all that stands on it.
mod Walk
use Prim.Native.Nat.{ℕ, zero, suc, ◌<◌, ◌+◌}
use native.Mathlib.Omega.{arith}
use lib.ListN.{length}
use mathlib.Core.List.{List, [], ◌∷◌}
use mathlib.Core.Path.{◌≡◌, refl}
use mir.Syntax
use mir.MapTy
use mir.Inst.{key_of, args_of}
use mathlib.Core.Option.{some}
use prog.Routine.{◌≼⁺◌}
use base.Logic.{SProp, ent, sep, via, fst∗, snd∗, mono_r, id⊢}
use types.Logic.{Logic}
use prog.Model.{Model}
use prog.Wired.{Wired}
use seplogic.Ra.Ura.{Ura}
use contract.Running.{Running, tables_of}
use contract.Monad.{fact, fact_mono, fact_use}
use contract.Lifetimes.{Lfts, Shares}
use contract.BorrowLft.{◌⊑◌, ⊑_refl, ⊑_static}
use denote.Param
use denote.Param.Laws.{Laws}
use denote.RattleType.{RattleType}
use denote.Triple.Entry.{on_entry}
use denote.Triple.Impl as Impl
use denote.Triple.Clauses.{closing}
use denote.Triple.Table.{run_framed, widened}
use denote.Triple.Spec.{Spec, triple_of}
use borrow.Author.Rules.{rules, get_or_read}
use borrow.Fn.Any.{want_q}
use borrow.Fn.Claims as Claims
use borrow.Fn.Function.{plain_of, init}
use borrow.Fn.Kinds.{Dens, In, Out, GoodsP}
use borrow.Fn.Plain.{t_fn_plain_given}
use borrow.Fn.Read.{Read, all_models, read_join, r_last, no_know, all∗_one}
use borrow.Fn.Run.{Over}
use borrow.Fn.World.{World, Pr, In as Entered}
use borrow.Fn.Written as Written
use borrow.Follows.Closed as Closed
use borrow.Follows.Maybe.{maybe}
use borrow.Follows.So.{owed_so}
use borrow.Rule.AtSlots.{one_type}
use Rattle.std.specs.Prelude.{⊤}
use Rattle.mq_topic.specs.Levels.{levels_left}
use Rattle.mq_tree.specs.declared.tree.node.lend.Descend
use Rattle.mq_tree.specs.declared.tree.node.lend.Down as Down'
use Rattle.mq_tree.specs.contracts.tree.node.lend.Down
use Rattle.mq_tree.specs.contracts.tree.node.lend.Descend.TheBound
use Rattle.mq_tree.specs.contracts.tree.node.lend.Descend.descend as method
use Rattle.mq_tree.specs.contracts.tree.node.lend.DownDescend.TheImpl
use Rattle.mq_tree.specs.contracts.tree.node.lend.DownDescend.descend as f
use Rattle.mq_tree.specs.contracts.tree.node.lend.DownDescend.descend.Key as key
use Rattle.mq_tree.proofs.tree.node.Node.lend.Met as lend
use Rattle.mq_tree.proofs.tree.node.Node.lend.Reads as lent
use Rattle.mq_tree.proofs.tree.node.Node.lend.Symbol as lend'
use Rattle.mq_tree.proofs.tree.node.lend.DownDescend.+descend.{statement}
use Rattle.mq_tree.proofs.tree.node.lend.DownDescend.+descend.Code as code
use Rattle.mq_tree.proofs.tree.node.lend.DownDescend.descend.Kinds as kinds
use Rattle.mq_tree.proofs.tree.node.Node.get_mut.Reads as reads
use Rattle.mq_tree.proofs.tree.node.lend.DownDescend.+descend.Proof.Walk as walk

abbrev told : {On : (w : World) → Pr w} (A : Type 0) → Read On no_know (λ w. fact w.𝓤 A)
told A = all_models (λ w. fact w.𝓤 A) (λ w. r_last _) (λ w. refl) (λ w. refl) (λ w. refl)

module _ (V : RattleType) (LV : Laws V) where
  abbrev ghosts : ℕ → Descend.Ghosts Down'.Down V.Denot
  ghosts t = record { reach = λ n. n < t }

  abbrev dict : Syntax.Dict
  dict = TheImpl.dict V

  abbrev left : (κs : Lfts 3) → Dens κs (kinds.ps V LV) → ℕ
  left κs a = length (levels_left a.1.0)

  abbrev Low : ℕ → (κs : Lfts 3) → Dens κs (kinds.ps V LV) → Type 0
  Low t κs a = left κs a < t

  abbrev req : ℕ → (κs : Lfts 3) → Dens κs (kinds.ps V LV) → reads.Ghost V LV → (w : World) → Pr w
  req t κs a z w = sep w.𝓤 (fact w.𝓤 (κs.1.1.0 ⊑ V.lives)) (fact w.𝓤 (Low t κs a))

  abbrev rq : (t : ℕ) (κs : Lfts 3) (a : Dens κs (kinds.ps V LV)) (z : reads.Ghost V LV)
      → Read (Entered (f.signature V) κs a) no_know (req t κs a z)
  rq t κs a z = read_join (λ w. fact w.𝓤 (κs.1.1.0 ⊑ V.lives)) (λ w. fact w.𝓤 (Low t κs a))
      (told (κs.1.1.0 ⊑ V.lives)) (told (Low t κs a))

  abbrev owed : Closed.Owed 3 (kinds.whole V LV)
      (maybe (kinds.whole V LV) (kinds.part V LV) (kinds.named V LV)) (kinds.lender V LV)
      (kinds.rest V LV) (kinds.r V LV)
  owed = owed_so 3 (kinds.whole V LV) (kinds.part V LV) (kinds.named V LV) (kinds.lender V LV)
      (kinds.rest V LV) (kinds.r V LV) (one_type 3 (kinds.named V LV)) (reads.how V LV)

  abbrev Pre : ℕ → In 3 (kinds.ps V LV)
  Pre t = Written.Pre 3 (kinds.ps V LV) (kinds.r V LV) (reads.Ghost V LV) (req t)
      (reads.ensures V LV) (rq t) (reads.Pinned V LV) (reads.Owned V LV) (reads.post_read V LV) tt

  abbrev Post : Out 3 (walk.ps V LV) (walk.r V LV)
  Post = Closed.Owing 3 (kinds.whole V LV)
      (maybe (kinds.whole V LV) (kinds.part V LV) (kinds.named V LV)) (kinds.lender V LV)
      (kinds.rest V LV) (kinds.r V LV) owed (reads.Post V LV)

  abbrev claims : ℕ → walk.Claims V LV
  claims t = (
    lent.Asked (walk.arg-0 V LV) (walk.arg-1 V LV) (walk.laws-0 V LV) (walk.laws-1 V LV) (ghosts t)
        dict,
    lent.Learnt (walk.arg-0 V LV) (walk.arg-1 V LV) (walk.laws-0 V LV) (walk.laws-1 V LV) (ghosts t)
        dict,
    lent.how (walk.arg-0 V LV) (walk.arg-1 V LV) (walk.laws-0 V LV) (walk.laws-1 V LV) (ghosts t)
        dict,
  )

  lives : (t : ℕ) (κs : Lfts 3) (a : Dens κs (walk.ps V LV)) → Pre t κs a → (κs.1.1.0 ⊑ V.lives)
      × Unit {0}
  lives t κs a p = (Claims.All-at 0 (rq t κs a tt).tells p, tt)

  asked : (t : ℕ) (κs : Lfts 3) (qs : Shares 3) (a : Dens κs (walk.ps V LV))
      → GoodsP κs (walk.ps V LV) a → Pre (suc t) κs a → (bs : List ℕ)
      → walk.Φ V LV (claims t) (Pre (suc t)) Post
      (want_q 3 (walk.ps V LV) (walk.r V LV) (walk.xs V LV) (walk.m V LV) κs qs a (Post κs a))
      (init 3 (walk.ps V LV) (walk.r V LV) (walk.xs V LV) (walk.m V LV) κs qs a)
  asked t κs qs a good pre bs =
      let low : left κs a < suc t = pre.1 in (
        λ κs' l. (l, (⊑_static κs'.1.1.1.0, λ n e. omega (arith, low, e))),
        λ g. ((refl, (refl, tt)), ((refl, g.5.holds, g.5.holds-at-none), g.5.claims)),
      )

  pub spec : (t : ℕ) {M : Type 1} → walk.Closed V LV (claims t) (Pre (suc t)) Post M
  spec t 𝓤 𝓛 𝓣 known =
      t_fn_plain_given 𝓛 𝓣 3 (walk.ps V LV) (walk.r V LV) (walk.xs V LV) (walk.m V LV)
      (walk.hs V LV) (walk.body V LV) (λ κs qs bs. walk.Φ V LV (claims t) (Pre (suc t)) Post)
      (λ κs. (κs.1.1.0 ⊑ V.lives) × Unit {0})
      (λ κs qs bs bd l. walk.typed V LV (claims t) (Pre (suc t)) Post κs qs 𝓛 𝓣 known l bs bd)
      (Pre (suc t)) Post (lives (suc t)) (asked t)

module _ {M : Type 1} (𝓤 : Ura M) (𝓛 : Logic 𝓤) (𝓜 : Model 𝓤 𝓛.H) (𝓡 : Running 𝓤 𝓛.H 𝓜)
    (wired : Wired 𝓡.env code.code) (V : RattleType) (LV : Laws V) where
  abbrev w : World
  w = record { M = M; 𝓤 = 𝓤; 𝓛 = 𝓛; 𝓜 = 𝓜; 𝓡 = 𝓡 }

  abbrev run_key : Syntax.Callee
  run_key = key.name (Param.layouts (Syntax.a_type ∷ []) (V, tt))

  abbrev Holds : ℕ → Type 1
  Holds t = Written.Holds 3 (kinds.ps V LV) (kinds.r V LV) (reads.Ghost V LV) (req V LV t)
      (reads.ensures V LV) w (𝓡.run (𝓡.env run_key))

  abbrev Met : ℕ → Type 2
  Met t = TheBound.Met 𝓛 𝓜 𝓡 𝓡.env Down.the_row V (ghosts V LV t) (dict V LV)

  known : (t : ℕ) → Met t → walk.Known-0 V LV (claims V LV t) 𝓛 (Over 𝓛 𝓜 𝓡 𝓡.env)
  unfolding tables_of
  known t met y =
      lent.followed (walk.arg-0 V LV) (walk.arg-1 V LV) (walk.laws-0 V LV)
      (walk.laws-1 V LV) (ghosts V LV t) (dict V LV) w 𝓡.env
      (lend'.name (walk.passed-0 V LV)) (𝓡.env (lend'.name (walk.passed-0 V LV))) refl
      (lend.met 𝓤 𝓛 𝓜 𝓡 (code.calls-mq_tree::tree::node::Node::lend 𝓡.env wired)
      (walk.arg-0 V LV) (walk.arg-1 V LV) (walk.laws-0 V LV)
      (walk.laws-1 V LV) (ghosts V LV t) (dict V LV)
      (record { descend = met.descend })) y

  step : (t : ℕ) → Met t → Holds (suc t)
  unfolding tables_of code.code
  step t met =
      let Ts = Param.layouts (Syntax.a_type ∷ []) (V, tt) in
      Closed.close_follows 3 (kinds.whole V LV)
      (maybe (kinds.whole V LV) (kinds.part V LV) (kinds.named V LV)) (kinds.lender V LV)
      (kinds.rest V LV) (kinds.r V LV) (owed V LV)
      (reads.Ghost V LV) (req V LV (suc t)) (reads.ensures V LV) (rq V LV (suc t))
      (reads.Pinned V LV) (reads.Owned V LV) (reads.post_read V LV) w
      𝓡.env run_key (MapTy.inst_fn Ts code.descend-function)
      (code.descend-unfolded 𝓤 𝓛.H 𝓜 𝓡 wired (V, tt)) (λ κs a z. tt)
      (λ κs. reads.owns V LV κs w) (λ κs a z x e. all∗_one w _)
      (λ z. Written.at_code 𝓤 𝓛.H (Over 𝓛 𝓜 𝓡 𝓡.env).C (Over 𝓛 𝓜 𝓡 𝓡.env).Λ (walk.function V LV)
      (MapTy.inst_fn Ts code.descend-function) refl refl
      (plain_of 𝓛 3 (walk.ps V LV) (walk.r V LV) (Pre V LV (suc t)) (Post V LV))
      (spec V LV t 𝓤 𝓛 (Over 𝓛 𝓜 𝓡 𝓡.env) (known t met)))

  abbrev call : Syntax.Callee
  call = Syntax.method (dict V LV) 0 (Param.layouts [] tt)

  abbrev own : ℕ → Spec 𝓤 (f.signature V)
  own t = closing 𝓛 (f.ended V)
      (λ κs a. record {
        ghost = reads.Ghost V LV;
        requires = λ z. req V LV t κs a z w;
        ensures =
            λ z r s. reads.ensures V LV κs a z r s w;
      })

  as_method : (k : Syntax.Callee) → some key.symbol ≡ key_of k
      → 𝓡.env (Syntax.fn key.symbol (args_of k)) ≼⁺ 𝓡.env k
  unfolding code.code
  as_method = wired.3.0

  met_of : (t : ℕ) → Holds t → Met t
  met_of t holds = record {
    descend = Impl.implements 𝓛 (f.signature V) 4
        (method.ended Down.the_row V (ghosts V LV t) (dict V LV)).signature.outlives
        (λ τs. (τs.0, (τs.1.0, (τs.1.1.1.0, tt)))) (𝓡.run (𝓡.env call))
        (run_framed 𝓤 𝓛.H 𝓜 𝓡 (𝓡.env call)) (own t)
        (λ τs a. let m = method.spec Down.the_row V (ghosts V LV t) (dict V LV) 𝓛 𝓜.mem 𝓡.returns τs
        a in record { ghost = m.ghost; requires = λ y. m.requires y; ensures = m.ensures })
        2 (λ τs. (τs.1.1.0, (τs.1.1.1.0, tt))) (λ τs. (Down.the_row.lives, (V.lives, tt)))
        ((0, tt), ((1, tt), ((3, tt), tt)))
        (λ τs a y. fact 𝓤 (length (levels_left a.1.0) < t))
        (λ τs a y. id⊢ 𝓤 _) (λ τs h. ((⊑_refl τs.0, (⊑_refl τs.1.0, (⊑_refl τs.1.1.1.0, tt))), h.0))
        (λ τs a y. y)
        (λ τs h a y. Impl.insides_in 𝓤 1 (τs.1.1.1.0, tt) (V.lives, tt)
        (fact 𝓤 (length (levels_left a.1.0) < t)) (h.1.1.0, tt)) (λ τs a y r. id⊢ 𝓤 _)
        (widened 𝓤 𝓛.H (triple_of 𝓛 (f.signature V) (own t)) 𝓜 𝓡 𝓡.env (𝓡.env run_key) (𝓡.env call)
        (as_method call refl) holds);
  }

  at : (t : ℕ) → Holds t
  at zero = λ y.
      let Rq : SProp 𝓤 = fact 𝓤 (y.0.0.1.1.0 ⊑ V.lives) in
      let Low' = Low V LV zero y.0.0 y.0.3 in
      fact_use 𝓤 Low' (via 𝓤 (sep 𝓤 Rq (fact 𝓤 Low'))
      (snd∗ 𝓤 (on_entry 𝓛 (f.signature V) y.0.0 y.0.1 y.0.3 y.0.4) (sep 𝓤 Rq (fact 𝓤 Low')))
      (snd∗ 𝓤 Rq (fact 𝓤 Low'))) (λ p. let no : ⊥ = omega (arith, p) in absurd no)
  at (suc t) = step t (met_of t (at t))

pub +descend_spec : {M : Type 1} → statement M
unfolding tables_of code.code
+descend_spec {M} 𝓤 𝓛 𝓜 𝓡 wired V LV = λ y.
    let t : ℕ = suc (left V LV y.0.0 y.0.3) in
    let Low' = Low V LV t y.0.0 y.0.3 in
    let low : Low' = omega arith in
    via 𝓤 _ (mono_r 𝓤 (on_entry 𝓛 (f.signature V) y.0.0 y.0.1 y.0.3 y.0.4)
    (mono_r 𝓤 (fact 𝓤 (y.0.0.1.1.0 ⊑ V.lives)) (fact_mono 𝓤 ⊤ Low' (λ _. low))))
    (at 𝓤 𝓛 𝓜 𝓡 wired V LV t y)
