-- What the `set` lines set, and the configuration that it makes.
use Rattle.std.specs.Prelude.{ℕ, ◌≡◌, ◌&&◌, Bool, List, Option, Some, None, is_some, unwrap_or, option_map}
use Rattle.scr_base.specs.Limits.{is_config}
use Rattle.scr_base.specs.Sets.{fits_sets}
use Rattle.scr_base.specs.declared.shape.Scheme.{Scheme}
use Rattle.scr_base.specs.declared.shape.Scheme.TheVariants as scheme
use Rattle.scr_base.specs.declared.shape.Config.{Config}
use Rattle.script_reader.specs.declared.form.SchemeWord.{SchemeWord}
use Rattle.script_reader.specs.declared.form.SchemeWord.TheVariants as word
use Rattle.script_reader.specs.declared.form.Key.{Key}
use Rattle.script_reader.specs.declared.form.Key.TheVariants as key
use Rattle.script_reader.specs.declared.settings.Settings.{Settings}
use Rattle.script_reader.specs.Numbers.{number_in}

abbrev pub no_settings : Settings
no_settings = record { scheme = None; shares = None; size = None; cache = None; flush = None; interval = None }

-- the key was set
unfoldable pub is_set : Settings → Key → Bool
is_set s (key.Scheme word) = is_some s.scheme
is_set s key.Shares = is_some s.shares
is_set s key.Size = is_some s.size
is_set s key.Cache = is_some s.cache
is_set s key.Flush = is_some s.flush
is_set s key.Interval = is_some s.interval

-- the settings with a key set to the value that a word spells, where it spells one in its range
unfoldable pub set_by : Settings → Key → List ℕ → Option Settings
set_by s (key.Scheme word) w = Some (record s { scheme = Some word })
set_by s key.Shares w = option_map (λ k. record s { shares = Some k }) (number_in 1 15 w)
set_by s key.Size w = option_map (λ k. record s { size = Some k }) (number_in 2 16 w)
set_by s key.Cache w = option_map (λ k. record s { cache = Some k }) (number_in 1 4 w)
set_by s key.Flush w = option_map (λ k. record s { flush = Some k }) (number_in 0 1000000 w)
set_by s key.Interval w = option_map (λ k. record s { interval = Some k }) (number_in 1 1000000 w)

abbrev pub scheme_with : SchemeWord → ℕ → Scheme
scheme_with word.Single shares = scheme.Single
scheme_with word.Partner shares = scheme.Partner
scheme_with word.Xor shares = scheme.Xor
scheme_with word.Rs shares = scheme.Rs shares

-- ## The defaults: xor, 2 shares, size 8, a cache of 1, a flush of each tenth, an interval of 1

abbrev pub scheme_of : Settings → Scheme
scheme_of s = scheme_with (unwrap_or s.scheme word.Xor) (unwrap_or s.shares 2)

abbrev pub size_of : Settings → ℕ
size_of s = unwrap_or s.size 8

abbrev pub cache_of : Settings → ℕ
cache_of s = unwrap_or s.cache 1

abbrev pub flush_of : Settings → ℕ
flush_of s = unwrap_or s.flush 10

abbrev pub interval_of : Settings → ℕ
interval_of s = unwrap_or s.interval 1

-- the settings make a configuration whose scheme fits the groups of that many nodes
unfoldable pub fits : Settings → ℕ → Bool
fits s nodes =
    is_config (scheme_of s) (size_of s) (cache_of s) (flush_of s) (interval_of s) && fits_sets (scheme_of s) (size_of s) nodes

pub record IsConfig (c : Config) (scheme : Scheme) (size cache flush interval : ℕ) : Type 0 where
  pub scheme_is : c.scheme ≡ scheme
  pub size_is : c.size ≡ size
  pub cache_is : c.cache ≡ cache
  pub flush_is : c.flush ≡ flush
  pub interval_is : c.interval ≡ interval

-- the configuration of the settings and the defaults
abbrev pub IsConfigOf : Config → Settings → Type 0
IsConfigOf c s = IsConfig c (scheme_of s) (size_of s) (cache_of s) (flush_of s) (interval_of s)
