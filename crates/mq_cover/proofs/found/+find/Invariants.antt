use Rattle.mq_cover.proofs.found.+find.Given as goal

abbrev pub decreases-find : goal.decreases-find
decreases-find l = l.budget
