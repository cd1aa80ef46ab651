use Rattle.std.proofs.Common.{◌≡◌, Bool, true, false, cond, bytes_eq, refl, ◌∙◌, string_bytes}
use Rattle.std.specs.BTreeSet.{contains_text}
use Rattle.std.proofs.lemmas.Map.Text.{btree_set_updates_text}
use Rattle.mq_lint.proofs.repeats.add_key.Goals as goal

stays : (b a : Bool) → a ≡ true → cond b true a ≡ true
stays true a h = refl
stays false a h = h

pub returns-clause-kept : goal.returns-clause-kept
returns-clause-kept c = λ text h.
    btree_set_updates_text (string_bytes c.args.key) c.args.keys.now c.insert.new.self true
    c.in_ok-new.ensures.updates text
    ∙ stays (bytes_eq (string_bytes c.args.key) text) (contains_text c.args.keys.now text) h
