-- `element::all_elements` meets its contract: elements are the numbers within the last one. Assumes nothing.
use Rattle.std.proofs.Common.{sym, ◌∙◌, lit<}
use Rattle.scheme.specs.Scheme.{sixteen}
use Rattle.scheme.proofs.Elements.{elements_within}
use Rattle.element.proofs.all_elements.Goals as goal

pub returns : goal.returns
returns c = c.all_within.ensures ∙ sym (elements_within sixteen (lit< tt) _)
