-- the bucket of a timer, without a search over the clocks of its base
use Rattle.std.specs.Prelude.{◌≡◌, ◌↔◌, ◌≤◌, ℕ, zero, suc, ◌+◌, ◌-◌, ◌*◌, ◌/◌, ◌%◌}
use Rattle.std.specs.Prelude.{◌==◌, ◌&&◌, ◌||◌, not, nat_le, nat_lt, min, Bool, true, Option, Some}
use Rattle.std.specs.Prelude.{None}
use Rattle.linux_lines.specs.declared.events.Arming.{Arming}
use Rattle.linux_timers.specs.declared.wheel.TheConstants.{BUCKETS, MOST_JIFFIES}
use Rattle.wheel_core.specs.WheelExpiry.{cutoff, granularity, greatest_timeout, level_start}
use Rattle.wheel_core.specs.WheelExpiry.{wheel_expiry_of, wheel_level_of}

-- the number of the bucket of a timer in a base of a clock: 64 times its level and its place there
-- (calc_index)
abbrev pub wheel_index_of : (expires clock : ℕ) → ℕ
wheel_index_of expires clock =
    64 * wheel_level_of expires clock
    + wheel_expiry_of expires clock / granularity (wheel_level_of expires clock) % 64

-- a base of this clock gives this bucket
unfoldable pub gives : (expires clock bucket index : ℕ) → Bool
gives expires clock bucket index =
    wheel_expiry_of expires clock == bucket && wheel_index_of expires clock == index

-- the latest clock that gives a bucket of a level: at level 0 the bucket's own expiry, and at the
-- others the one from which the expiry is as near as the level takes
abbrev pub latest_of : (level expires bucket : ℕ) → ℕ
latest_of zero expires bucket = bucket
latest_of (suc level) expires bucket = expires - level_start (suc level)

-- .. where it is from the cutoff on
abbrev pub latest_cut : (expires bucket : ℕ) → ℕ
latest_cut expires bucket = min (expires - cutoff) (bucket - 1 - greatest_timeout)

-- a base of this clock, which has come to another one before, gives this bucket
unfoldable pub gives_past : (least expires clock bucket index : ℕ) → Bool
gives_past least expires clock bucket index =
    nat_le least clock && gives expires clock bucket index

-- SOME CLOCK, from the least that the base may have up to one jiffy past now, gives the bucket: a
-- base that has just run its timers is one jiffy ahead, and one that wasn't forwarded is behind
unfoldable pub bucket_fits : (least now expires bucket index : ℕ) → Bool
bucket_fits least now expires bucket index =
    nat_lt index BUCKETS
    && (gives_past least expires (min (now + 1) (latest_of (index / 64) expires bucket)) bucket
    index
    || gives_past least expires (min (now + 1) (latest_cut expires bucket)) bucket index)

-- times that are far from the end of the wheel's words
abbrev pub are_near : (now expires : ℕ) → Bool
are_near now expires = nat_le now MOST_JIFFIES && nat_le expires MOST_JIFFIES

-- the bucket of an armed timer is the wheel's, at a time that its line may have
abbrev pub fits_at : (least : ℕ) → Option ℕ → Arming → Bool
fits_at least None a = true
fits_at least (Some now) a =
    not (are_near now a.expires) || bucket_fits least now a.expires a.bucket a.index

-- .. at its line's, in a base whose clock is at this or later
unfoldable pub arming_fits : (least : ℕ) → Arming → Bool
arming_fits least a = fits_at least a.jiffies a

-- a clock that a base may have, by the least that it has and by the time, and that gives a bucket
pub record Gives (least now expires bucket index clock : ℕ) : Type 0 where
  pub from : least ≤ clock
  pub to : clock ≤ now + 1
  pub gives : gives expires clock bucket index ≡ true

-- what `bucket_fits` says: no clock that the base may have is missed, and none is made up
abbrev pub FindsClocks : Type 0
FindsClocks = (least now expires bucket index : ℕ)
    → (bucket_fits least now expires bucket index ≡ true)
    ↔ ((clock : ℕ) × Gives least now expires bucket index clock)
