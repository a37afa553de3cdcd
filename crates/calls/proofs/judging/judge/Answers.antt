use Rattle.std.proofs.Common.{string_bytes}
use Rattle.text.specs.ProfileText.{reading_of}
use Rattle.calls.proofs.Judged.{station_refused, manual_refused}
use Rattle.calls.proofs.judging.judge.Goals as goal

pub returns-in-Err : goal.returns-in-Err
returns-in-Err c = station_refused string_bytes c.refused.result c.args.station.now c.args.manual.now c.args.calls.now c.in-Err.fault c.in-Err.ensures.value.0 c.refused.ensures

pub returns-in-Err-read_profile : goal.returns-in-Err-read_profile
returns-in-Err-read_profile c = manual_refused string_bytes c.refused-in-Err-read_profile.result c.args.station.now c.args.manual.now c.args.calls.now c.in-Err-read_profile.fault (reading_of c.read_profile.new.profile) c.in_default.ensures.value c.in-Err-read_profile.ensures.value.0 c.refused-in-Err-read_profile.ensures
