use Rattle.record_codec.proofs.skipping.+past_values.Given as goal

abbrev pub decreases-past_values : goal.decreases-past_values
decreases-past_values l = l.count
