use Rattle.check_known.proofs.+keep_deep.Given as goal

abbrev pub decreases-keep_deep : goal.decreases-keep_deep
decreases-keep_deep l = l.depth
