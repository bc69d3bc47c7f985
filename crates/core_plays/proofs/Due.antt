-- nobody is due before the time of a device
use Rattle.std.proofs.Common.{◌≡◌, ℕ, ◌<◌, false, Option, Some, None, refl}
use Rattle.std.proofs.Common.{arith}
use Rattle.std.specs.Prelude.{nat_le}
use Rattle.std.proofs.lemmas.Bool.Decides.{nat_tests}
use Rattle.deep_idle.specs.Device.{is_wakeup_due}

late : (now w : ℕ) → now < w → nat_le w now ≡ false
late now w later = grind (arith, nat_tests)

-- nobody is due before the device's time
pub none_due : (now : ℕ) (o : Option ℕ) → ((w : ℕ) → o ≡ Some w → now < w) → is_wakeup_due now o ≡ false
none_due now None later = refl
none_due now (Some w) later = late now w (later w refl)
