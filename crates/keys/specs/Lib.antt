-- Promise: what refused calls leave, beside scheme's specs/Scheme.antt and specs/Drawn.antt. The functions behind them also cite scheme's
-- specs/KeyParts.antt and specs/DrawnParts.antt.
pub mod Promise
