-- every step keeps tops fit
use Rattle.core_laws.specs.Tops.Layer.{TopsStayFit}
use Rattle.core_laws.proofs.Tops.First.{first_stays}
use Rattle.core_laws.proofs.Tops.Keeps.{answered_stays}
use Rattle.core_laws.proofs.Tops.Never.{never_stays}

pub tops_stay_fit : TopsStayFit
tops_stay_fit w step h sized timers origins walks edges marks sights locks cpus markers f e =
    record {
      no_never = never_stays w step f.no_never e;
      answered = answered_stays w step (record {
        tree = h;
        sized = sized;
        walks = walks;
        edges = edges;
        marks = marks;
        sights = sights;
        cpus = cpus;
        markers = markers;
        timers = timers;
        origins = origins;
        no_never = f.no_never;
        answered = f.answered;
      }) e;
      first = first_stays w step walks locks f.first e;
    }
