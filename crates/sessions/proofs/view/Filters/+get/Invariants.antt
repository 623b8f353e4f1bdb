use Rattle.sessions.proofs.view.Filters.+get.Given as goal

abbrev pub decreases-get : goal.decreases-get
decreases-get l = l.self.now.count
