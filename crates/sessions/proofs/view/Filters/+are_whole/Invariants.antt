use Rattle.sessions.proofs.view.Filters.+are_whole.Given as goal

abbrev pub decreases-are_whole : goal.decreases-are_whole
decreases-are_whole l = l.self.now.count
