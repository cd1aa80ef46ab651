-- The texts of a question's members.
use Rattle.std.specs.Option.{option_copied}
use Rattle.mq_ask_why.specs.Questions.{Asking}
use Rattle.mq_ask_why.specs.declared.question.Texts.{Texts}

abbrev pub texts_view : Texts → Asking
texts_view texts = record {
  client = texts.client.now;
  user = option_copied texts.user;
  topic = texts.topic.now;
  access = texts.access;
}
