use Rattle.std.proofs.Common.{length}
use Rattle.mq_topic.specs.Levels.{levels_left}
use Rattle.mq_traffic.proofs.pattern.TopicPattern.+rest_matches.Given as goal

-- what is left of the topic gets shorter
abbrev pub decreases-rest_matches : goal.decreases-rest_matches
decreases-rest_matches l = length (levels_left l.topic)
