use Rattle.mq_cli.proofs.program.open.Goals as goal

pub returns-in-Err : goal.returns-in-Err
returns-in-Err g c = c.of_open.ensures.shown
