-- The walk of `descend`, which hands its parameters on to `lend`, at any claims of the two.
-- It is what Rattle writes of `Node::get_mut`, whose body is the same (`rt check --start mq_tree::tree::node::Node::get_mut --generated FOLDER`, there Lts.antt), with each type and context said once.
use Prim.Native.Nat
use Rattle.mq_tree.specs.contracts.tree.node.Node
use Rattle.mq_tree.specs.contracts.tree.node.lend.Down
use Rattle.std.proofs.option.Option.TheLaws
use Rattle.std.specs.contracts.option.Option
use base.Fml
use base.Fraction
use base.Logic
use borrow.Fn.Call
use borrow.Fn.Function
use borrow.Fn.Kinds
use borrow.Fn.Plain
use borrow.Follows.Home
use borrow.Follows.Kind
use borrow.Follows.Maybe
use borrow.Follows.So
use borrow.Join.Shorter
use borrow.Kind.EnumTo
use borrow.Kind.StructFields
use borrow.Kind.ValueTo
use borrow.Rule.AtSlots
use borrow.Rule.Labels.ValueAt
use borrow.Rule.Lifetime
use borrow.Rule.Local
use borrow.Rule.LocalCopy
use borrow.Rule.Pass
use borrow.Rule.Scalar
use borrow.Rule.Yields
use borrow.Table.Own
use borrow.Table.Reads
use borrow.Table.Row
use borrow.Table.Rows
use borrow.Table.Str
use borrow.Table.Typed
use contract.BorrowLft
use contract.Lifetimes
use denote.Enum.Declared
use denote.Enum.Laws
use denote.Enum.Loose
use denote.Exit
use denote.Param
use denote.Param.Laws as Laws'
use denote.RattleType
use denote.Signature
use denote.Struct.Field
use denote.Text
use mathlib.Core.Option as Option'
use mir.Syntax
use prog.Wp
use seplogic.Ra.Ura
use types.Logic as Logic'
use Rattle.mq_tree.proofs.tree.node.Node.lend.Kinds as callee
use Rattle.mq_tree.proofs.tree.node.lend.DownDescend.descend.Kinds as kinds
use Rattle.mq_tree.proofs.tree.node.lend.Down.TheLaws as down
use mathlib.Core.Path.{◌≡◌, refl}
use Rattle.std.specs.Prelude.{codes}
use mathlib.Core.List.{List, [], ◌∷◌}

module _ (V : RattleType.RattleType) (LV : Laws'.Laws V) where
  abbrev name-0 : List Nat.ℕ
  name-0 = codes "&[]"

  abbrev name-1 : List Nat.ℕ
  name-1 = codes "core::option::Option"

  abbrev name-3 : List Nat.ℕ
  name-3 = codes "mq_tree::tree::node::Node"

  abbrev pub behind-3 : Syntax.Ty
  behind-3 = Syntax.ty_named (name-3, []) (Syntax.tcons (Syntax.ty_param 0) Syntax.tnil)

  abbrev node : RattleType.RattleType
  node = Node.the_row (Param.param 0 V)

  abbrev value : RattleType.RattleType
  value = Param.param 0 V

  abbrev pub ty-3 : Syntax.Ty
  ty-3 = Param.layout node

  -- what is lent under a lifetime, the key's text as it is passed in, and as it is passed on
  abbrev lent_at : Fml.Lft → Declared.Declared
  lent_at c = Option.the_type
      (Field.mut_ref_field record { mir = Syntax.named 0; lft = c } value tt).row

  abbrev hands : Kind.Owes node
  hands = Maybe.maybe node value (lent_at []).D

  abbrev lent_row : Fml.Lft → RattleType.RattleType
  lent_row c = Declared.row (lent_at c)

  abbrev text_at : Fml.Lft → Field.Field
  text_at c = Text.str-field record { mir = Syntax.named 1; lft = c }

  abbrev text_here : Fml.Lft → Field.Field
  text_here c = Text.str-field record { mir = Syntax.erased; lft = c }

  abbrev key_row : Fml.Lft → RattleType.RattleType
  key_row c = Declared.row (Option.the_type (text_at c).row)

  abbrev key_here : Fml.Lft → RattleType.RattleType
  key_here c = Declared.row (Option.the_type (text_here c).row)

  abbrev key_ty : Syntax.Lifetime → Syntax.Ty
  key_ty a = Syntax.ty_enum name-1
      (Syntax.ttcons Syntax.tnil
      (Syntax.ttcons
      (Syntax.tcons (Syntax.ty_struct name-0
      (Syntax.tcons (Syntax.ty_ref a Syntax.imm (Syntax.ty_int Syntax.w8))
      (Syntax.tcons (Syntax.ty_int Syntax.w64) Syntax.tnil))) Syntax.tnil) Syntax.ttnil))

  abbrev lent_ty : Syntax.Ty
  lent_ty = Syntax.ty_enum name-1
      (Syntax.ttcons Syntax.tnil
      (Syntax.ttcons (Syntax.tcons (Syntax.ty_ref (Syntax.named 0) Syntax.mut (Syntax.ty_param 0))
      Syntax.tnil) Syntax.ttnil))

  abbrev ref_ty : Syntax.Lifetime → Syntax.Ty
  ref_ty a = Syntax.ty_ref a Syntax.mut behind-3

  -- the five locals: the result, the node and the key as passed in, and both as passed on
  abbrev rows : Row.Row → Row.Row → Row.Row → Row.Row → Row.Row → List Row.Entry
  rows a b c d e = (0, a) ∷ (1, b) ∷ (2, c) ∷ (3, d) ∷ (4, e) ∷ []

  abbrev all : List Nat.ℕ
  all = 0 ∷ 1 ∷ 2 ∷ 3 ∷ []

  abbrev before : List Row.Entry → Row.Cx
  before t = record { locals = t; slots = [] }

  abbrev pub ps : List (Kinds.ParamKind 3)
  ps = kinds.ps_on V LV

  abbrev pub r : Kinds.ResultKind 3
  r = kinds.r V LV

  abbrev pub xs : List Syntax.Ty
  xs = (ref_ty Syntax.erased) ∷ (key_ty Syntax.erased) ∷ []

  abbrev pub m : Nat.ℕ
  m = 1

  abbrev pub ps-0 : List (Kinds.ParamKind 4)
  ps-0 = callee.ps V Down.the_row LV down.the_row_laws

  abbrev pub r-0 : Kinds.ResultKind 4
  r-0 = callee.r V Down.the_row LV down.the_row_laws

  abbrev pub passed-0 : Syntax.Args
  passed-0 = (
    Syntax.tcons (Param.layout V) (Syntax.tcons (Syntax.ty_struct [] Syntax.tnil) Syntax.tnil),
    Syntax.dcons (Syntax.impl
        ("mq_tree::tree::node::lend::DownDescend::descend" ∷ [])
        (Syntax.tcons (Param.layout V) Syntax.tnil) Syntax.dnil) Syntax.dnil,
  )

  abbrev lend : Syntax.Callee
  lend = Syntax.fn "mq_tree::tree::node::Node::lend" passed-0

  abbrev pub arg-0 : RattleType.RattleType
  arg-0 = Param.arg (Param.layout V) Exit.yes value

  abbrev pub arg-1 : RattleType.RattleType
  arg-1 = Param.arg (Syntax.ty_struct [] Syntax.tnil) Exit.no Down.the_row

  abbrev pub laws-0 : Laws'.Laws arg-0
  laws-0 = Laws'.arg_laws (Param.layout V) Exit.yes value (Laws'.param_laws 0 V LV) refl

  abbrev pub laws-1 : Laws'.Laws arg-1
  laws-1 = Laws'.arg_laws (Syntax.ty_struct [] Syntax.tnil) Exit.no Down.the_row down.the_row_laws
      refl

  abbrev pub rest-0 : List (Kinds.ParamKind 4)
  rest-0 = callee.rest V Down.the_row LV down.the_row_laws

  abbrev pub named-0 : Type 0
  named-0 = callee.named V Down.the_row LV down.the_row_laws

  abbrev pub ps_on-0 : List (Kinds.ParamKind 4)
  ps_on-0 = callee.ps_on V Down.the_row LV down.the_row_laws

  abbrev pub lender-0 : borrow.Follows.Lender.Lender 4 node
  lender-0 = callee.lender V Down.the_row LV down.the_row_laws

  abbrev pub hs : List Syntax.Home
  hs = Syntax.value_local ∷ Syntax.value_local ∷ Syntax.value_local ∷ Syntax.value_local
      ∷ Syntax.value_local ∷ []

  abbrev b0 : Syntax.Body
  b0 = Syntax.assign (Syntax.place 3 [])
      (Syntax.addr_of (Syntax.place 1 ((Syntax.deref ty-3) ∷ [])))

  abbrev b1 : Syntax.Body
  b1 = Syntax.assign (Syntax.place 4 []) (Syntax.rv_opd (Syntax.copy (Syntax.place 2 [])))

  abbrev b2 : Syntax.Body
  b2 = Syntax.call lend (Syntax.copy (Syntax.place 3 []) ∷ Syntax.copy (Syntax.place 4 []) ∷ [])
      (Syntax.place 0 [])

  abbrev pub body : Syntax.Body
  body = Syntax.seq b0 (Syntax.seq b1 (Syntax.seq b2 Syntax.return))

  abbrev pub function : Syntax.Fn
  function = Function.fn_of 3 ps r xs m hs body

  abbrev pub Claims : Type 1
  Claims = Kinds.In 4 ps-0 × Kinds.Out 4 ps-0 r-0
      × So.HowSo 4 node value named-0 lender-0 rest-0 r-0 (AtSlots.one_type 4 named-0)

  -- the rows before each step, where a is the lifetime of the result and k that of the key
  abbrev key_any : Row.Row
  key_any = ValueAt.val_at 4 (λ κc. key_row κc.1.0) (Option.the_type (text_at []).row).D (λ κc v. v)
      all (key_ty Syntax.erased)

  abbrev lent_any : Row.Row
  lent_any = ValueAt.val_at 4 (λ κc. lent_row κc.0) (lent_at []).D (λ κc v. v) all lent_ty

  abbrev rows-0 : Fml.Lft → List Row.Entry
  rows-0 k = rows (Rows.any_gone lent_ty) (Rows.mref node (ref_ty (Syntax.named 0)) 0)
      (Rows.whole (key_row k)) (Rows.any_gone (ref_ty Syntax.erased))
      (Rows.any_gone (key_ty Syntax.erased))

  abbrev rows-1 : Fml.Lft → Fml.Lft → List Row.Entry
  rows-1 a k = rows (Rows.whole (lent_row a)) (Kind.owing_by node hands (ref_ty (Syntax.named 0)))
      (Rows.whole (key_row k)) (Rows.any_gone (ref_ty Syntax.erased))
      (Rows.any_gone (key_ty Syntax.erased))

  -- the node is passed on, and its key is the row e
  abbrev passed : Fml.Lft → Row.Row → List Row.Entry
  passed k e = rows (Rows.any_gone lent_ty) (Rows.any_gone (ref_ty (Syntax.named 0)))
      (Rows.whole (key_row k)) (Rows.mref node (ref_ty Syntax.erased) 0) e

  -- the result is the row r, and the key that was passed on the row e
  abbrev called : Fml.Lft → Row.Row → Row.Row → List Row.Entry
  called k r e = rows r (Rows.any_gone (ref_ty (Syntax.named 0))) (Rows.whole (key_row k))
      (Maybe.waits_if node value (lent_at []).D (ref_ty Syntax.erased)) e

  abbrev Cx0 : Row.Cx
  Cx0 = before (rows-0 [])

  abbrev Cx1 : Row.Cx
  Cx1 = before (rows-1 [] [])

  abbrev Cx3 : Row.Cx
  Cx3 = before (passed [] (Rows.any_gone (key_ty Syntax.erased)))

  abbrev Cx4 : Row.Cx
  Cx4 = before (passed [] (Rows.whole (key_here [])))

  abbrev Cx5 : Row.Cx
  Cx5 = before (passed [] key_any)

  abbrev Cx6 : Row.Cx
  Cx6 = before (called [] lent_any key_any)

  abbrev Cx7 : Row.Cx
  Cx7 = before (called [] lent_any (Rows.whole (key_here [])))

  abbrev Cx8 : Row.Cx
  Cx8 = before (called [] (Rows.whole (lent_row [])) (Rows.whole (key_here [])))

  abbrev Cx9 : Row.Cx
  Cx9 = before (called [] (Rows.whole (lent_row [])) (Rows.any_gone (key_ty Syntax.erased)))

  abbrev O0 : Typed.Outs
  O0 = record { next = Option'.none; exits = []; returns = Option'.some Cx1 }

  abbrev pub Pre-type : Type 1
  Pre-type = (κs : Lifetimes.Lfts 3) → (a : Kinds.Dens κs ps) → Type 0

  abbrev pub Post-type : Type 1
  Post-type = (κs : Lifetimes.Lfts 3) → (a : Kinds.Dens κs ps) → Kinds.Plain 3 ps r κs

  module _ (the-claims : Claims) where
    abbrev s1 : Typed.Mo Cx0 → Typed.Mo Cx3
    s1 = Pass.n_ref_pass Cx0 1 3 0 node (ref_ty (Syntax.named 0)) (ref_ty Syntax.erased) λ x. x

    abbrev s2 : Typed.Mo Cx3 → Typed.Mo Cx4
    s2 = LocalCopy.n_val_copy Cx3 2 4 (key_row []) (Rows.whole (key_row []))
        (Rows.whole (key_here [])) (λ x. x) (λ x. x) λ x. x

    abbrev s3 : Typed.Mo Cx4 → Typed.Mo Cx5
    s3 = AtSlots.n_as_by Cx4 4 key_any λ x. x

    abbrev s4 : Typed.Both Cx5 Cx6
    s4 = So.call_so 4 node value named-0 lender-0 rest-0 r-0 (AtSlots.one_type 4 named-0)
        the-claims.2 (λ κs a. BorrowLft.◌⊑◌ κs.1.1.0 V.lives → the-claims.0 κs a) the-claims.1 Cx5 (
          record { pos = 3; ty = ref_ty Syntax.erased; ref = λ x. x },
          (record { pos = 4; ty = key_ty Syntax.erased; at = λ x. x }, tt),
        ) 0 all lent_ty

    abbrev s5 : Typed.Mo Cx6 → Typed.Mo Cx7
    s5 = AtSlots.n_as_by Cx6 4 (Rows.whole (key_here [])) λ x. x

    abbrev s6 : Typed.Mo Cx7 → Typed.Mo Cx8
    s6 = AtSlots.n_as_by Cx7 0 (Rows.whole (lent_row [])) λ x. x

    abbrev s7 : Typed.Mo Cx8 → Typed.Mo Cx9
    s7 = Scalar.n_room Cx8 4 (key_ty Syntax.erased)

    abbrev s8 : Typed.Mo Cx9 → Typed.Mo Cx1
    s8 = Home.k_owing_home Cx9 1 3 (ref_ty (Syntax.named 0)) (ref_ty Syntax.erased) node hands
        λ x. x

    abbrev told : Kinds.Out 4 ps_on-0 r-0
    told = So.WithSo 4 node value named-0 lender-0 rest-0 r-0 (AtSlots.one_type 4 named-0)
        the-claims.2 the-claims.0 the-claims.1

    module _ {M : Type 1} {𝓤 : Ura.Ura M} (𝓛 : Logic'.Logic 𝓤) (𝓣 : Wp.Tables 𝓤 𝓛.H) where
      abbrev pub Known-0 : Type 1
      Known-0 = Plain.Known 𝓛 𝓣 4 ps_on-0 r-0 the-claims.0 told lend

    module _ (the-Pre : Pre-type) (the-Post : Post-type) where
      module _ (M : Type 1) where
        abbrev pub Closed : Type 2
        Closed = (𝓤 : Ura.Ura M) (𝓛 : Logic'.Logic 𝓤) (𝓣 : Wp.Tables 𝓤 𝓛.H) → Known-0 𝓛 𝓣
            → denote.Triple.Statement.Triple 𝓤 (Wp.WpFn 𝓤 𝓛.H 𝓣.C 𝓣.Λ function)
            (Function.plain_of 𝓛 3 ps r the-Pre the-Post)

      module _ where
        abbrev after_call : Typed.TF Cx6 O0
        after_call = λ Ψ. Typed.pass Cx6 Cx7 s5 (Typed.pass Cx7 Cx8 s6 (Typed.pass Cx8 Cx9 s7
            (Typed.pass Cx9 Cx1 s8 (Typed.at_ret O0 Ψ))))

        abbrev pub Φ : Typed.TF Cx0 O0
        Φ = λ Ψ. Typed.pass Cx0 Cx3 s1 (Typed.pass Cx3 Cx4 s2 (Typed.pass Cx4 Cx5 s3
            (Typed.both s4 (after_call Ψ))))

        module _ (κs : Lifetimes.Lfts 3) (qs : Lifetimes.Shares 3) where
          abbrev whole : Row.Life
          whole = Row.lease [] Fraction.full_share

          abbrev within : List Row.Entry → Row.Life → Row.Cx
          within t last = record {
            locals = t;
            slots =
                Row.lease κs.0 qs.0 ∷ Row.lease κs.1.0 qs.1.0 ∷ Row.lease κs.1.1.0 qs.1.1.0 ∷ last
                ∷ [];
          }

          abbrev G0 : Row.Cx
          G0 = within (rows-0 κs.1.0) Row.off

          abbrev G1 : Row.Cx
          G1 = within (rows-1 κs.0 κs.1.0) Row.off

          abbrev G2 : Row.Cx
          G2 = within (rows-0 κs.1.0) whole

          abbrev G3 : Row.Cx
          G3 = within (passed κs.1.0 (Rows.any_gone (key_ty Syntax.erased))) whole

          abbrev G4 : Row.Cx
          G4 = within (passed κs.1.0 (Rows.whole (key_here κs.1.0))) whole

          abbrev G5 : Row.Cx
          G5 = within (passed κs.1.0 key_any) whole

          abbrev G6 : Row.Cx
          G6 = within (called κs.1.0 lent_any key_any) whole

          abbrev G7 : Row.Cx
          G7 = within (called κs.1.0 lent_any (Rows.whole (key_here κs.1.0))) whole

          abbrev G8 : Row.Cx
          G8 = within (called κs.1.0 (Rows.whole (lent_row κs.0)) (Rows.whole (key_here κs.1.0)))
              whole

          abbrev G9 : Row.Cx
          G9 = within (called κs.1.0 (Rows.whole (lent_row κs.0))
              (Rows.any_gone (key_ty Syntax.erased))) whole

          abbrev G10 : Row.Cx
          G10 = within (rows-1 κs.0 κs.1.0) whole

          abbrev Δ0 : Typed.Outs
          Δ0 = record { next = Option'.none; exits = []; returns = Option'.some G1 }

          module _ {M : Type 1} {𝓤 : Ura.Ura M} (𝓛 : Logic'.Logic 𝓤) (𝓣 : Wp.Tables 𝓤 𝓛.H)
              (known : Known-0 𝓛 𝓣) (lives : BorrowLft.◌⊑◌ κs.1.1.0 V.lives × Unit {0})
              (bs : List Nat.ℕ) (bd : Lifetimes.AllOutlive 3 (Kinds.os_r r) κs) where
            abbrev E : Wp.Env 𝓤 𝓛.H
            E = borrow.Fn.Frame.EnvOf 𝓛 ((Kinds.ty_r r) ∷ (borrow.Fn.Enter.tys_p ps xs)) bs

            pub typed : Typed.Typed 𝓛 𝓣 E (Function.Γin 3 ps r xs m κs qs) body
                (Function.Δret 3 ps r xs m κs qs) Φ
            typed =
                let field = StructFields.f_mut_spent 4 0 tt (Signature.plain λ κs. value)
                (Syntax.wrote (Syntax.ty_param 0)) λ κs. refl in
                let sum = denote.Enum.Enum.Sum (borrow.Kind.EnumInner.Tss ([], ([], ([], ([], tt))))
                ([] ∷ (field ∷ []) ∷ [])) in
                let result = EnumTo.r_enum_to (let Y : EnumTo.EnumTo 4 = record {
                  ν = (Option.enum
                      (Field.mut_ref_field record { mir = Syntax.named 0; lft = [] } value
                      tt).row).name;
                  args = [];
                  types = λ κs. (lent_at κs.0).types;
                  keeps = Exit.no;
                  variants = [] ∷ (field ∷ []) ∷ [];
                  D = (lent_at []).D;
                  to = λ κs. (lent_at κs.0).to;
                  one = λ κs. (lent_at κs.0).to_one;
                  mir = lent_ty;
                  mir_is = λ κs. refl;
                  few = λ κs. tt;
                  Vs = sum;
                  ot = AtSlots.one_type 4 sum;
                } in Y) λ M 𝓤 𝓛. (
                  tt,
                  (
                    (
                      StructFields.f_mut-Lawful 4 0 tt (Signature.plain λ κs. value)
                          (Syntax.wrote (Syntax.ty_param 0)) (λ κs. refl) 𝓛,
                      tt,
                    ),
                    tt,
                  ),
                ) in
                let str = λ (c : Fml.Lft). Str.str_laws record { mir = Syntax.named 1; lft = c } in
                let laws = λ (c : Fml.Lft). TheLaws.the_laws (text_at c).row (str c)
                (Laws'.field_told (text_at c)
                (Text.str-laws record { mir = Syntax.named 1; lft = c })) in
                let copy = λ (c : Fml.Lft). TheLaws.the_copy (text_at c).row (str c)
                (Str.str_copy record { mir = Syntax.named 1; lft = c }) in
                Typed.g_pre_lem 𝓛 𝓣 E G0 G2 _ Δ0 (λ Ψ. Ψ) _
                (Lifetime.g_static 𝓛 E G0 3 (tt, (tt, (tt, (tt, (tt, tt))))))
                (Typed.s_seq 𝓛 𝓣 E G2 G3 _ _ Δ0 (Typed.pass Cx0 Cx3 s1) _
                (Pass.t_ref_pass 𝓛 E 𝓣 G2 1 3 0 node ty-3 (ref_ty (Syntax.named 0))
                (ref_ty Syntax.erased) (λ x. x)
                (Reads.as_is 𝓛 (Rows.mref node (ref_ty (Syntax.named 0)) 0))
                (Reads.room_gone 𝓛 (ref_ty Syntax.erased)) refl refl λ b o. tt)
                (Typed.s_seq 𝓛 𝓣 E G3 G4 _ _ Δ0 (Typed.pass Cx3 Cx4 s2) _
                (LocalCopy.t_val_copy 𝓛 E 𝓣 (λ ρ. Row.lft ρ 1 ≡ κs.1.0) G3 2 4 (key_row κs.1.0)
                (key_ty (Syntax.named 1)) (key_ty Syntax.erased) (Rows.whole (key_row κs.1.0))
                (Rows.whole (key_here κs.1.0)) (λ x. x) (λ x. x) (λ x. x) refl
                (Call.pin_lease 𝓛 1 G3.slots κs.1.0 qs.1.0 refl)
                (Yields.Yields-copy 𝓛 (λ ρ. Row.lft ρ 1 ≡ κs.1.0) (key_row κs.1.0) refl
                ((borrow.Table.Copies.c_enum (Option.the_type (text_at κs.1.0).row) (laws κs.1.0)
                (copy κs.1.0)).copy 𝓛)
                (Rows.whole (key_row κs.1.0)) (λ x. x) (λ x. x)
                (λ ρ told. Local.mem_whole 𝓛 (key_row κs.1.0) ρ)
                λ ρ told. Local.whole_mem 𝓛 (key_row κs.1.0) ρ)
                (Reads.room_gone 𝓛 (key_ty Syntax.erased))
                (Yields.Makes-mem 𝓛 (λ ρ. Row.lft ρ 1 ≡ κs.1.0) (key_here κs.1.0) refl
                (Rows.whole (key_here κs.1.0)) (λ x. x)
                λ ρ told. Local.whole_mem 𝓛 (key_here κs.1.0) ρ) refl refl)
                (Typed.g_pre_lem 𝓛 𝓣 E G4 G5 _ Δ0 (Typed.pass Cx4 Cx5 s3) _
                (AtSlots.g_as_by 𝓛 E (λ ρ. Row.lft ρ 1 ≡ κs.1.0) G4 4 key_any (λ x. x)
                (Call.pin_lease 𝓛 1 G4.slots κs.1.0 qs.1.0 refl)
                (ValueAt.to_slots_Val 𝓛 4 Fml.Lft (λ κc. κc.1.0) (λ c. key_row c)
                (Option.the_type (text_at []).row).D (λ c v. v) all κs.1.0 (key_ty Syntax.erased)
                (key_here κs.1.0) refl refl (λ x. x)
                λ x vs. Logic.id⊢ 𝓤 (Logic'.sem 𝓛 ((key_here κs.1.0).own_val x vs))))
                (Typed.s_seq 𝓛 𝓣 E G5 G6 _ _ Δ0 (Typed.both s4) _
                (So.so_call 4 node value named-0 lender-0 rest-0 r-0 (AtSlots.one_type 4 named-0)
                the-claims.2 (λ κs a. BorrowLft.◌⊑◌ κs.1.1.0 V.lives → the-claims.0 κs a)
                the-claims.1 G5 (
                  record { pos = 3; ty = ref_ty Syntax.erased; ref = λ x. x },
                  (record { pos = 4; ty = key_ty Syntax.erased; at = λ x. x }, tt),
                ) 0 all lent_ty 𝓛 𝓣 E
                (Plain.t_call_plain_by_Pin 𝓛 𝓣 4 ps_on-0 r-0 the-claims.0 told lend known
                (λ κs. BorrowLft.◌⊑◌ κs.1.1.0 V.lives) E (λ pos β. β) G5 (
                  record { pos = 3; ty = ref_ty Syntax.erased; ref = λ x. x },
                  (record { pos = 4; ty = key_ty Syntax.erased; at = λ x. x }, tt),
                ) 0 all (Call.within_lease 𝓛 2 G5.slots κs.1.1.0 qs.1.1.0 refl V.lives lives.0)
                (Call.sub_id 𝓛 G5.slots) (
                  Reads.as_is 𝓛 (Rows.mref node (ref_ty Syntax.erased) 0),
                  Reads.reads_mref 𝓛 node (ref_ty Syntax.erased) 0,
                  refl,
                  (
                    ValueTo.val_at_yields 𝓛 (let Y : ValueTo.ValuedTo 4 = record {
                      ty = λ κs. key_row κs.1.0;
                      mir = key_ty (Syntax.named 1);
                      one = λ κs. refl;
                      mir_is = λ κs. refl;
                      val = λ κs. Laws.val (Option.the_type (text_at κs.1.0).row) (laws κs.1.0);
                      tells = λ κs. Laws.tells (Option.the_type (text_at κs.1.0).row) (laws κs.1.0);
                      still = λ κs. Laws.still (Option.the_type (text_at κs.1.0).row) (copy κs.1.0)
                          Exit.yes;
                      D = (Option.the_type (text_at []).row).D;
                      ot = AtSlots.one_type 4 (Option.the_type (text_at []).row).D;
                    } in Y) record {
                      copies = λ κs. Laws.copy (Option.the_type (text_at κs.1.0).row) (copy κs.1.0)
                          𝓛;
                      lawful = λ κs. Loose.loose_lawful (Option.the_type (text_at κs.1.0).row)
                          (TheLaws.the_loose (text_at κs.1.0).row (str κs.1.0)) tt 𝓛;
                    } all (key_ty Syntax.erased),
                    refl,
                    tt,
                  ),
                ) (Reads.room_gone 𝓛 lent_ty) (tt, (tt, (tt, (tt, tt))))
                (Shorter.Told-bounds 𝓛 4 G5.slots all (Kinds.os_r r-0)
                (borrow.Rule.Way.Told-and 𝓛 G5.slots (Shorter.Below 2 0) (λ ρ. Unit)
                (Shorter.Told-Below 𝓛 G5.slots 2 0 κs.1.1.0 κs.0
                (Call.pin_lease 𝓛 2 G5.slots κs.1.1.0 qs.1.1.0 refl)
                (Call.pin_lease 𝓛 0 G5.slots κs.0 qs.0 refl) bd.0) (Own.Told-none 𝓛 G5.slots)))
                refl λ κs' x v i. borrow.Fn.Result.res_typed 𝓛 4 κs' result x v i all lent_ty refl))
                (Typed.g_pre_lem 𝓛 𝓣 E G6 G7 _ Δ0 (Typed.pass Cx6 Cx7 s5) _
                (AtSlots.g_as_by 𝓛 E (λ ρ. Row.lft ρ 1 ≡ κs.1.0) G6 4 (Rows.whole (key_here κs.1.0))
                (λ x. x) (Call.pin_lease 𝓛 1 G6.slots κs.1.0 qs.1.0 refl)
                (ValueAt.of_slots_Val 𝓛 4 Fml.Lft (λ κc. κc.1.0) (λ c. key_row c)
                (Option.the_type (text_at []).row).D (λ c v. v) all κs.1.0 (key_ty Syntax.erased)
                (key_here κs.1.0) refl refl (λ x. x)
                λ x vs. Logic.id⊢ 𝓤 (Logic'.sem 𝓛 ((key_here κs.1.0).own_val x vs))))
                (Typed.g_pre_lem 𝓛 𝓣 E G7 G8 _ Δ0 (Typed.pass Cx7 Cx8 s6) _
                (AtSlots.g_as_by 𝓛 E (λ ρ. Row.lft ρ 0 ≡ κs.0) G7 0 (Rows.whole (lent_row κs.0))
                (λ x. x) (Call.pin_lease 𝓛 0 G7.slots κs.0 qs.0 refl)
                (ValueAt.of_slots_Val 𝓛 4 Fml.Lft (λ κc. κc.0) (λ c. lent_row c) (lent_at []).D
                (λ c v. v) all κs.0 lent_ty (lent_row κs.0) refl refl (λ x. x)
                λ x vs. Logic.id⊢ 𝓤 (Logic'.sem 𝓛 ((lent_row κs.0).own_val x vs))))
                (Typed.g_pre_lem 𝓛 𝓣 E G8 G9 _ Δ0 (Typed.pass Cx8 Cx9 s7) _
                (Scalar.g_room 𝓛 E G8 4 (key_ty Syntax.erased)
                (Local.room_whole 𝓛 (key_here κs.1.0) (key_ty Syntax.erased) refl))
                (Typed.g_pre_lem 𝓛 𝓣 E G9 G10 _ Δ0 (Typed.pass Cx9 Cx1 s8) _
                (Home.g_owing_home 𝓛 E G9 1 3 (ref_ty (Syntax.named 0)) (ref_ty Syntax.erased) node
                hands (λ x. x) (Reads.room_gone 𝓛 (ref_ty (Syntax.named 0)))
                (Reads.as_is 𝓛 (Maybe.waits_if node value (lent_at []).D (ref_ty Syntax.erased))))
                (Typed.g_pre_lem 𝓛 𝓣 E G10 G1 _ Δ0 (λ Ψ. Ψ) _
                (Lifetime.g_forget 𝓛 E G10 3 (Row.lease [] Fraction.full_share) refl)
                (Typed.t_return 𝓛 𝓣 E Δ0 tt))))))))))
