-- The bytes of a whole file, as docs/formats.md defines them.
use Rattle.std.specs.Prelude.{ℕ, List, [], ◌∷◌, ◌++◌, length, replicate}
use Rattle.std.specs.List.{flat_map}
use Rattle.recording_texts.specs.Bytes.{length_number, long_bytes, padded, words_bytes}
use Rattle.recording_texts.specs.Header.{header_bytes}
use Rattle.recording_texts.specs.Claims.{first_bytes, later_bytes, page_ids}
use Rattle.recording_texts.specs.declared.claim.Claim.{Claim}
use Rattle.recording_texts.specs.declared.sketch.Event.{Event}
use Rattle.recording_texts.specs.declared.sketch.Sketch.{Sketch}

-- the 256 words of a page: the given words, and then zeros
abbrev pub page_bytes : List ℕ → List ℕ
page_bytes words = words_bytes (padded words 256)

-- an event: its count, its kind and its value
abbrev pub event_bytes : Event → List ℕ
event_bytes event = long_bytes event.count ++ words_bytes (event.kind ∷ event.value ∷ [])

-- the header, the pages and the events
unfoldable pub prefix_bytes : ℕ → Sketch → List ℕ
prefix_bytes version sketch =
    header_bytes version
    (length_number (length sketch.pages.now)) (length_number (length sketch.events.now)) (length_number (length sketch.claims.now))
    ++ flat_map (λ page. page_bytes page.now) sketch.pages.now
    ++ flat_map event_bytes sketch.events.now

-- the checkpoints in version 2 or 3, after one with the table `before`
abbrev pub later_claims : ℕ → List ℕ → List Claim → List ℕ
later_claims version before [] = []
later_claims version before (claim ∷ claims) = later_bytes version before claim ++ later_claims version (page_ids claim) claims

-- the output of all checkpoints
abbrev pub output_bytes : List Claim → List ℕ
output_bytes claims = flat_map (λ (claim : Claim). claim.sent.now) claims

-- the file of version 1
unfoldable pub first_file : Sketch → List ℕ
first_file sketch = prefix_bytes 1 sketch ++ flat_map first_bytes sketch.claims.now ++ output_bytes sketch.claims.now

-- the file of version 2 or 3
unfoldable pub later_file : ℕ → Sketch → List ℕ
later_file version sketch =
    prefix_bytes version sketch ++ later_claims version (replicate 1024 0) sketch.claims.now ++ output_bytes sketch.claims.now
