use Rattle.std.proofs.Common.{◌≡◌, ◌++◌, take}
use Rattle.std.specs.List.{flat_map}
use Rattle.recording_texts.specs.Layout.{page_bytes}
use Rattle.recording_texts.proofs.sketch.push_pages.Given as goal

abbrev pub invariant-loop-page : goal.invariant-loop-page
invariant-loop-page l = l.file.items ≡ l.fn.file.items ++ flat_map (λ page. page_bytes page.now) (take l.page-index l.pages)
