use Rattle.std.proofs.Common.{◌∙◌, ℕ, Vec, Global}
use Rattle.oberon_past.proofs.Keyframes.{if-ok}
use Rattle.oberon_past.proofs.Pages.{all-long, all-words}
use Rattle.oberon_past.proofs.past.words_of.Goals as goal

pub returns-clause-words : goal.returns-clause-words
returns-clause-words c =
    let memory = c.in_ok-memory.ensures in
    if-ok c.words.result
    (λ (words : Vec ℕ Global) is. all-words words.items c.in_ok-memory.memory.words _ is memory.memory.words ∙ memory.words) c.words.ensures

pub returns-clause-whole : goal.returns-clause-whole
returns-clause-whole c =
    let memory = c.in_ok-memory.ensures in
    if-ok c.words.result
    (λ (words : Vec ℕ Global) is. all-long words.items c.in_ok-memory.memory.words _ is memory.memory.words) c.words.ensures
