use Rattle.std.proofs.Common.{◌≡◌, refl, ap, ◌∙◌, List, ℕ, Bor, Bool, true, false, cond, ◌||◌}
use Rattle.std.proofs.Common.{bytes_eq}
use Rattle.std.proofs.lemmas.Map.Text.{is_eq-slice_cmp}
use Rattle.mq_topic.proofs.ByteLemmas.{text_flip}
use Rattle.mq_witness.specs.Literals.{is_named}
use Rattle.mq_witness.proofs.literals.Literals.add.Goals as goal

one_more : (b a : Bool) → cond b true a ≡ (a || b)
one_more true true = refl
one_more true false = refl
one_more false true = refl
one_more false false = refl

pub returns : goal.returns
returns c = λ l.
    let q : Bor (List ℕ) = record { ref_ptr = (0, 0); now = l } in
    c.in_ok-insert.ensures.updates.0 q
    ∙ ap (λ b. cond b true (is_named l c.args.self.now))
    (is_eq-slice_cmp c.args.text.now l ∙ text_flip c.args.text.now l)
    ∙ one_more (bytes_eq l c.args.text.now) (is_named l c.args.self.now)
