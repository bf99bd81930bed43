-- How contracts see what the readers of JSON have found of an object.
use Rattle.std.specs.Prelude.{map, option_map}
use Rattle.oberon_session.specs.declared.page.PageMembers.{PageMembers}
use Rattle.oberon_session.specs.declared.start.StartMembers.{StartMembers}
use Rattle.oberon_session.specs.declared.shape.SessionMembers.{SessionMembers}
use Rattle.oberon_session.specs.inner.Drafts.{input_view, page_view}
use Rattle.oberon_session.specs.inner.Found.{PageFound, SessionFound, StartFound}

abbrev pub page_found_view : PageMembers → PageFound
page_found_view found = record { at = found.at; hex = option_map (λ text. text.now) found.hex; only = found.only }

abbrev pub start_found_view : StartMembers → StartFound
start_found_view found = record {
  registers = option_map (λ numbers. numbers.items) found.registers;
  h = found.h;
  pc = found.pc;
  flags = found.flags;
  rate = found.rate;
  phase = found.phase;
  disk = found.disk;
  fits_version_1 = found.fits_version_1;
  fits_version_2 = found.fits_version_2;
  fits_version_3 = found.fits_version_3;
}

abbrev pub session_found_view : SessionMembers → SessionFound
session_found_view found = record {
  named = found.named;
  version = found.version;
  start = option_map start_found_view found.start;
  pages = option_map (λ pages. map page_view pages.items) found.pages;
  inputs = option_map (λ inputs. map input_view inputs.items) found.inputs;
  checkpoints = option_map (λ numbers. numbers.items) found.checkpoints;
  only = found.only;
}
