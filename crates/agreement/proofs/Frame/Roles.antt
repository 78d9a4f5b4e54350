-- Roles.antt: a role by its test.
use Rattle.std.proofs.Common.{◌≡◌, true, refl}
use Rattle.ballot_base.specs.declared.status.Role.{Role}
use Rattle.ballot_base.specs.declared.status.Role.TheVariants.{Backup, Fetching, Installing, Active}
use Rattle.ballot_base.specs.Replica.{is_active, is_backup, is_fetching, is_installing}

-- a role by its test
pub role_active : (r : Role) → is_active r ≡ true → r ≡ Active
role_active Backup e = cc
role_active Fetching e = cc
role_active Installing e = cc
role_active Active e = refl

pub role_backup : (r : Role) → is_backup r ≡ true → r ≡ Backup
role_backup Backup e = refl
role_backup Fetching e = cc
role_backup Installing e = cc
role_backup Active e = cc

pub role_fetching : (r : Role) → is_fetching r ≡ true → r ≡ Fetching
role_fetching Backup e = cc
role_fetching Fetching e = refl
role_fetching Installing e = cc
role_fetching Active e = cc

pub role_installing : (r : Role) → is_installing r ≡ true → r ≡ Installing
role_installing Backup e = cc
role_installing Fetching e = cc
role_installing Installing e = refl
role_installing Active e = cc
