use Rattle.std.proofs.Common.{ap, sym, ◌∙◌}
use Rattle.mq_ask_why.proofs.QuestionLemmas.{names_counted}
use Rattle.mq_ask_why.proofs.question.member_count.Goals as goal
use Rattle.mq_ask_why.specs.Questions.{count_of}

pub returns-in-Some : goal.returns-in-Some
returns-in-Some c =
    c.len.ensures.len
    ∙ sym (names_counted c.in-Some.members.now.entries)
    ∙ ap count_of c.in-Some.ensures
