use Rattle.std.proofs.Common.{is_some, false, true, arith, refl, sym, ap, subst}
use Rattle.std.proofs.lemmas.Grind.{common_steps}
use Rattle.std.specs.Option.{option_copied}
use Rattle.serde_json.specs.View.{members_view}
use Rattle.mq_world.specs.Views.{copy_of}
use Rattle.mq_jsonl.specs.Objects.{IsFor, Parts, parts, copy_names}
use Rattle.mq_jsonl.proofs.BehindLemmas.{parts_without_ids, parts_with_ids, held_follows}
use Rattle.mq_jsonl.proofs.BehindLemmas.{held_keeps}
use Rattle.mq_jsonl.proofs.copies.Copies.line.Goals as goal

pub copy_line-requires-clause-fits : goal.copy_line-requires-clause-fits
copy_line-requires-clause-fits c =
    let arm = c.in-true-None-None in
    let same = parts_without_ids c.args.delivery.now false false (sym arm.ensures)
    (ap is_some arm.is-1) (ap is_some arm.is-2) in
    subst (λ (p : Parts). IsFor (copy_names p)
    (members_view c.args.self.now.plain.members.entries)) (sym same) c.args.self.now.plain_names

pub copy_line-requires-clause-before : goal.copy_line-requires-clause-before
copy_line-requires-clause-before c =
    let arm = c.in-true-None-None in
    let same = parts_without_ids c.args.delivery.now false false (sym arm.ensures)
    (ap is_some arm.is-1) (ap is_some arm.is-2) in
    let self = c.args.self.now in
    held_follows c.args.line (option_copied c.args.before) (copy_of c.args.delivery.now)
    (parts false false false)
    self.plain self.with_ids self.with_expiry self.with_group _ same refl c.requires

pub returns-in-true-None-None-clause-kept : goal.returns-in-true-None-None-clause-kept
returns-in-true-None-None-clause-kept c =
    let arm = c.in-true-None-None in
    let same = parts_without_ids c.args.delivery.now false false (sym arm.ensures)
    (ap is_some arm.is-1) (ap is_some arm.is-2) in
    let self = c.args.self.now in
    let made = c.copy_line in
    held_keeps made.result c.args.line (copy_of c.args.delivery.now) (parts false false false)
    made.new.kept self.with_ids self.with_expiry self.with_group _ same refl made.ensures.kept

pub copy_line-requires-in-false-None-None-clause-fits :
    goal.copy_line-requires-in-false-None-None-clause-fits
copy_line-requires-in-false-None-None-clause-fits c =
    let arm = c.in-false-None-None in
    let same = parts_with_ids c.args.delivery.now false false (sym arm.ensures)
    (ap is_some arm.is-1) (ap is_some arm.is-2) in
    subst (λ (p : Parts). IsFor (copy_names p)
    (members_view c.args.self.now.with_ids.members.entries)) (sym same) c.args.self.now.ids_names

pub copy_line-requires-in-false-None-None-clause-before :
    goal.copy_line-requires-in-false-None-None-clause-before
copy_line-requires-in-false-None-None-clause-before c =
    let arm = c.in-false-None-None in
    let same = parts_with_ids c.args.delivery.now false false (sym arm.ensures)
    (ap is_some arm.is-1) (ap is_some arm.is-2) in
    let self = c.args.self.now in
    held_follows c.args.line (option_copied c.args.before) (copy_of c.args.delivery.now)
    (parts true false false)
    self.plain self.with_ids self.with_expiry self.with_group _ same refl c.requires

pub returns-in-false-None-None-clause-kept : goal.returns-in-false-None-None-clause-kept
returns-in-false-None-None-clause-kept c =
    let arm = c.in-false-None-None in
    let same = parts_with_ids c.args.delivery.now false false (sym arm.ensures)
    (ap is_some arm.is-1) (ap is_some arm.is-2) in
    let self = c.args.self.now in
    let made = c.copy_line-in-false-None-None in
    held_keeps made.result c.args.line (copy_of c.args.delivery.now) (parts true false false)
    self.plain made.new.kept self.with_expiry self.with_group _ same refl made.ensures.kept

pub copy_line-requires-in-true-Some-None-clause-fits :
    goal.copy_line-requires-in-true-Some-None-clause-fits
copy_line-requires-in-true-Some-None-clause-fits c =
    let arm = c.in-true-Some-None in
    let same = parts_without_ids c.args.delivery.now true false (sym arm.ensures)
    (ap is_some arm.is-1) (ap is_some arm.is-2) in
    subst (λ (p : Parts). IsFor (copy_names p)
    (members_view c.args.self.now.with_expiry.members.entries)) (sym same)
    c.args.self.now.expiry_names

pub copy_line-requires-in-true-Some-None-clause-before :
    goal.copy_line-requires-in-true-Some-None-clause-before
copy_line-requires-in-true-Some-None-clause-before c =
    let arm = c.in-true-Some-None in
    let same = parts_without_ids c.args.delivery.now true false (sym arm.ensures)
    (ap is_some arm.is-1) (ap is_some arm.is-2) in
    let self = c.args.self.now in
    held_follows c.args.line (option_copied c.args.before) (copy_of c.args.delivery.now)
    (parts false true false)
    self.plain self.with_ids self.with_expiry self.with_group _ same refl c.requires

pub returns-in-true-Some-None-clause-kept : goal.returns-in-true-Some-None-clause-kept
returns-in-true-Some-None-clause-kept c =
    let arm = c.in-true-Some-None in
    let same = parts_without_ids c.args.delivery.now true false (sym arm.ensures)
    (ap is_some arm.is-1) (ap is_some arm.is-2) in
    let self = c.args.self.now in
    let made = c.copy_line-in-true-Some-None in
    held_keeps made.result c.args.line (copy_of c.args.delivery.now) (parts false true false)
    self.plain self.with_ids made.new.kept self.with_group _ same refl made.ensures.kept

pub copy_line-requires-in-true-None-Some-clause-fits :
    goal.copy_line-requires-in-true-None-Some-clause-fits
copy_line-requires-in-true-None-Some-clause-fits c =
    let arm = c.in-true-None-Some in
    let same = parts_without_ids c.args.delivery.now false true (sym arm.ensures)
    (ap is_some arm.is-1) (ap is_some arm.is-2) in
    subst (λ (p : Parts). IsFor (copy_names p)
    (members_view c.args.self.now.with_group.members.entries)) (sym same)
    c.args.self.now.group_names

pub copy_line-requires-in-true-None-Some-clause-before :
    goal.copy_line-requires-in-true-None-Some-clause-before
copy_line-requires-in-true-None-Some-clause-before c =
    let arm = c.in-true-None-Some in
    let same = parts_without_ids c.args.delivery.now false true (sym arm.ensures)
    (ap is_some arm.is-1) (ap is_some arm.is-2) in
    let self = c.args.self.now in
    held_follows c.args.line (option_copied c.args.before) (copy_of c.args.delivery.now)
    (parts false false true)
    self.plain self.with_ids self.with_expiry self.with_group _ same refl c.requires

pub returns-in-true-None-Some-clause-kept : goal.returns-in-true-None-Some-clause-kept
returns-in-true-None-Some-clause-kept c =
    let arm = c.in-true-None-Some in
    let same = parts_without_ids c.args.delivery.now false true (sym arm.ensures)
    (ap is_some arm.is-1) (ap is_some arm.is-2) in
    let self = c.args.self.now in
    let made = c.copy_line-in-true-None-Some in
    held_keeps made.result c.args.line (copy_of c.args.delivery.now) (parts false false true)
    self.plain self.with_ids self.with_expiry made.new.kept _ same refl made.ensures.kept

pub copy_line-requires-in_default-clause-fits : goal.copy_line-requires-in_default-clause-fits
copy_line-requires-in_default-clause-fits c = rw c.new.ensures (λ some. absurd (some refl))

pub copy_line-requires-in_default-clause-before :
    goal.copy_line-requires-in_default-clause-before
copy_line-requires-in_default-clause-before c = tt

pub returns-in_default-clause-kept : goal.returns-in_default-clause-kept
returns-in_default-clause-kept c = grind (arith, common_steps)

pub invariant_of-self : goal.invariant_of-self
invariant_of-self c =
    let arm = c.in-true-None-None in
    let same = parts_without_ids c.args.delivery.now false false (sym arm.ensures)
    (ap is_some arm.is-1) (ap is_some arm.is-2) in
    let self = c.args.self.now in
    record {
      plain_names = subst (λ (p : Parts). IsFor (copy_names p)
          (members_view c.copy_line.new.kept.members.entries)) same c.copy_line.ensures.fits;
      ids_names = self.ids_names;
      expiry_names = self.expiry_names;
      group_names = self.group_names;
    }

pub invariant_of-self-in-Some-1 : goal.invariant_of-self-in-Some-1
invariant_of-self-in-Some-1 c =
    let arm = c.in-true-None-Some in
    let same = parts_without_ids c.args.delivery.now false true (sym arm.ensures)
    (ap is_some arm.is-1) (ap is_some arm.is-2) in
    let self = c.args.self.now in
    let made = c.copy_line-in-true-None-Some in
    record {
      plain_names = self.plain_names;
      ids_names = self.ids_names;
      expiry_names = self.expiry_names;
      group_names = subst (λ (p : Parts). IsFor (copy_names p)
          (members_view made.new.kept.members.entries)) same made.ensures.fits;
    }
