use Rattle.std.proofs.Common.{[], ◌∷◌, inl, refl}
use Rattle.clap.specs.declared.error.ErrorKind.TheVariants.{InvalidValue}
use Rattle.mq_acl_args.proofs.CommandLineLemmas.{of_unknown}
use Rattle.mq_acl_args.proofs.command_line.no_question.Goals as goal

pub returns-in-Some : goal.returns-in-Some
returns-in-Some c = λ words kinds can.
    of_unknown words kinds c.of_value.result
    (c.of_value.ensures (InvalidValue ∷ []) (inl refl)) can

pub returns-in-Some-unknown_access : goal.returns-in-Some-unknown_access
returns-in-Some-unknown_access c = λ words kinds can.
    of_unknown words kinds c.of_value-in-Some-unknown_access.result
    (c.of_value-in-Some-unknown_access.ensures (InvalidValue ∷ []) (inl refl)) can

pub returns-in-Some-unknown_way : goal.returns-in-Some-unknown_way
returns-in-Some-unknown_way c = λ words kinds can.
    of_unknown words kinds c.of_value-in-Some-unknown_way.result
    (c.of_value-in-Some-unknown_way.ensures (InvalidValue ∷ []) (inl refl)) can
