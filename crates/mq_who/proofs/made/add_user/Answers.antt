use Rattle.std.proofs.Common.{◌≡◌, refl, ap, sym, ◌∙◌, List, ℕ, Bor, Bool, true, false, cond, ◌||◌}
use Rattle.std.proofs.Common.{bytes_eq}
use Rattle.std.proofs.lemmas.Map.Text.{is_eq-slice_cmp}
use Rattle.mq_topic.proofs.ByteLemmas.{text_flip}
use Rattle.mq_who.specs.Made.{has_user}
use Rattle.mq_who.proofs.made.add_user.Goals as goal

one_more : (b a : Bool) → cond b true a ≡ (a || b)
one_more true true = refl
one_more true false = refl
one_more false true = refl
one_more false false = refl

pub returns-clause-users : goal.returns-clause-users
returns-clause-users c = λ name.
    let query : Bor (List ℕ) = record { ref_ptr = (0, 0); now = name } in
    let user = c.in-Some.name.now in
    c.in_ok-insert.ensures.updates.0 query
    ∙ ap (λ b. cond b true (has_user c.args.users.now name))
    (is_eq-slice_cmp user name ∙ text_flip user name)
    ∙ one_more (bytes_eq name user) (has_user c.args.users.now name)
    ∙ ap (λ b. has_user c.args.users.now name || b) (sym (c.in-Some.ensures.some name))
