use Rattle.std.proofs.Common.{refl}
use Rattle.group_word.specs.State.{state_word}
use Rattle.shared_words.proofs.Back as back
use Rattle.shared_words.proofs.laws.law_ways_back.Goals as goal

pub returns : goal.returns
returns c = record {
  state = back.state_injective;
  sequence = λ s law. back.seq_of (state_word s) s (record { lawful = law; spelled = refl });
  lock = back.lock_back;
  slot = back.slot_back;
  marked = back.mark_slot;
  cpu = back.cpu_back;
  spot = back.spot_back;
  state_fits = back.state_fits;
  slot_fits = back.slot_fits;
  cpu_fits = back.cpu_fits;
}
