use Rattle.sessions.proofs.view.Filters.+contain.Given as goal

abbrev pub decreases-contain : goal.decreases-contain
decreases-contain l = l.self.now.count
