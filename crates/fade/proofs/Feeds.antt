-- What a feed of a state that is not broken does, where the output has room: neither 5 nor 7 comes, and the state stays one that is not broken. Assumes nothing.
use Rattle.batch.proofs.NotFive.{fed_unbroken, feed_not_five}
use Rattle.batch.proofs.Room.{never_seven, wrote_within}

pub ruleset feeds_go_on = (fed_unbroken, feed_not_five, never_seven, wrote_within)
