use Rattle.ring.proofs.Round.{place-apart}
use Rattle.ring.proofs.Waiting.{waiting-empty, waiting-length, get_or-waiting}
use Rattle.ring.proofs.waiting_law.Goals as goal

pub returns : goal.returns
returns g c =
    record {
      none = waiting-empty;
      fits = waiting-length;
      stands = get_or-waiting;
      apart = λ r. place-apart r.first;
    }
