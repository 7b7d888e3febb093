-- Which version of the library this is: 1.0.0. Within a major version nothing changes its meaning, as CHANGELOG.md says.
use Rattle.std.specs.Prelude.{ℕ, ◌+◌, ◌*◌}

abbrev pub MAJOR : ℕ
MAJOR = 1

abbrev pub MINOR : ℕ
MINOR = 0

abbrev pub PATCH : ℕ
PATCH = 0

-- a version as one number
abbrev pub number_of : (major minor patch : ℕ) → ℕ
number_of major minor patch = major * 1000000 + minor * 1000 + patch
