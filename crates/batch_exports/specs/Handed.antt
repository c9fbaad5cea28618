-- What a feed hands to those who call from Rust or C, where an enum can't go.
use Rattle.batch.specs.Feed.{feed_number}
use Rattle.batch.specs.Series.{length_said}
use Rattle.batch.specs.declared.Fed.{Fed}
use Rattle.batch_exports.specs.declared.Handed as declared

-- the state as it came back, the number of the refusal or 0, and the length written, which is 0 for a refusal
abbrev pub handed : Fed → declared.Handed
handed f = record { state = f.state; number = feed_number f.verdict; wrote = length_said f.verdict }
