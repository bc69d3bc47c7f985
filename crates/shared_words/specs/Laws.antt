-- what is true of every layout and of every word
use Rattle.std.specs.Prelude.{◌≡◌, ℕ, ◌/◌, ◌^◌, ◌<◌, Bool, true, Option, option_map, bit_or}
use Rattle.std.specs.Option.{ForSome}
use Rattle.event_queue.specs.declared.event.Event.{Event}
use Rattle.event_queue.specs.EventMap as events
use Rattle.event_queue.specs.Word.{slot_of}
use Rattle.group_word.specs.declared.state.GroupState.{GroupState}
use Rattle.group_word.specs.State.{IsLawfulState, IsStateOf, state_word}
use Rattle.cpu_word.specs.declared.state.CpuState.{CpuState}
use Rattle.cpu_word.specs.Word as cpus
use Rattle.shared_words.specs.declared.layout.Layout.{Layout}
use Rattle.shared_words.specs.declared.layout.SharedWord.{SharedWord}
use Rattle.shared_words.specs.declared.spot.Spot.{Spot}
use Rattle.shared_words.specs.Layout.{IsWordOf, count_of, index_of}
use Rattle.shared_words.specs.Words.{FitsSpot, holder_of, lock_word, spot_of, spot_word}
use Rattle.shared_words.specs.Words.{word_of_slot}

-- each word of a layout has an index of its own, which isn't 0
pub record WordsApart : Type 0 where
  pub one : (l : Layout) (v w : SharedWord) → IsWordOf l v → IsWordOf l w →
      index_of l v ≡ index_of l w → v ≡ w
  pub above : (l : Layout) (w : SharedWord) → 0 < index_of l w
  pub below : (l : Layout) (w : SharedWord) → IsWordOf l w → index_of l w < count_of l

-- a word tells what it was made of, and is below 2^64
pub record WaysBack : Type 0 where
  pub state : (word : ℕ) (s t : GroupState) → IsStateOf word s → IsStateOf word t → s ≡ t
  pub sequence : (s : GroupState) → IsLawfulState s → state_word s / 2 ^ 16 ≡ s.seq
  pub lock : (h : Option ℕ) → ForSome h (λ c. c < 2 ^ 16) → holder_of (lock_word h) ≡ h
  pub slot : (stray : Bool) (e : Option Event) → ForSome e events.FitsWord →
      slot_of (word_of_slot stray e) ≡ e
  pub marked : (stray : Bool) (e : Option Event) → ForSome e events.FitsWord →
      bit_or (word_of_slot stray e) (2 ^ 58) ≡ word_of_slot true (option_map events.as_ignored e)
  pub cpu : (word : ℕ) (s t : CpuState) → cpus.IsStateOf word s → cpus.IsStateOf word t → s ≡ t
  pub spot : (s : Option Spot) → ForSome s FitsSpot → spot_of (spot_word s) ≡ s
  pub state_fits : (s : GroupState) → IsLawfulState s → state_word s < 2 ^ 64
  pub slot_fits : (stray : Bool) (e : Option Event) → ForSome e events.FitsWord →
      word_of_slot stray e < 2 ^ 64
  pub cpu_fits : (s : CpuState) → cpus.FitsWord s → cpus.cpu_word s < 2 ^ 64
