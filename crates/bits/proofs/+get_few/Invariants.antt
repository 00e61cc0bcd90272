use Rattle.bits.proofs.+get_few.Given as goal

abbrev pub decreases-get_few : goal.decreases-get_few
decreases-get_few l = l.w
